-- A path read byte by byte: which byte may stand behind which. proofs/Scanned.antt shows that this is the rule by elements. Assumes nothing.
use Rattle.std.specs.Prelude.{ℕ, Bool, cond, not, ◌&&◌, ◌||◌, [], ◌∷◌, ◌==◌}
use Rattle.rules.specs.Orders.{Bytes}
use Rattle.rules.specs.Texts.{dot, slash}
use Rattle.rules.specs.Paths.{element_byte}

-- a slash, or the start of the text, and a dot: what an element may not end with or begin behind
abbrev pub at_edge : ℕ → Bool
at_edge c = c == slash || c == dot

-- c may stand behind `before`: a slash only where an element ends well, a dot not where one begins
abbrev pub follows : ℕ → ℕ → Bool
follows before c = cond (c == slash) (not (at_edge before)) (element_byte c && not (before == slash && c == dot))

-- what may stand behind `before`, up to the end
abbrev pub scan : ℕ → Bytes → Bool
scan before [] = not (at_edge before)
scan before (c ∷ cs) = follows before c && scan c cs
