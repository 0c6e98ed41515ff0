-- How a text is cut into pieces. Assumes nothing.
use Rattle.std.specs.Prelude.{◌≡◌, ℕ, Bool, true, not, ◌||◌, [], ◌∷◌, ◌++◌, ◌==◌}
use Rattle.rules.specs.Orders.{Bytes}
use Rattle.rules.specs.Texts.{dash, dot, every}
use Rattle.versions.specs.declared.pieces.Part.{Part}
use Rattle.versions.specs.declared.pieces.Part.TheVariants.{Numbers, Identifiers}
use Rattle.versions.specs.declared.pieces.End.{End}
use Rattle.versions.specs.declared.pieces.End.TheVariants.{Dash, Last, Dot}

-- whether a byte is one of a piece: a dot ends every piece, and a dash ends a number
abbrev pub within : Part → ℕ → Bool
within Numbers b = not (b == dot || b == dash)
within Identifiers b = not (b == dot)

-- what ends a piece, and what follows that
abbrev pub ending : End → Bytes → Bytes
ending Dash rest = dash ∷ rest
ending Last rest = rest
ending Dot rest = dot ∷ rest

-- how a piece may end: no dash ends an identifier, and nothing is left behind the last
abbrev pub EndsSo : Part → End → Bytes → Type 0
EndsSo Numbers Dash rest = Unit {0}
EndsSo Identifiers Dash rest = ⊥
EndsSo part Last rest = rest ≡ []
EndsSo part Dot rest = Unit {0}

-- a text begins with a piece, which is as long as it can be
pub record Begins (part : Part) (text piece : Bytes) (end : End) (rest : Bytes) : Type 0 where
  pub whole : text ≡ piece ++ ending end rest
  pub inside : every (within part) piece ≡ true
  pub so : EndsSo part end rest
