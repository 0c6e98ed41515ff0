-- What is left to read of a text, and what is read next. Assumes nothing.
use Rattle.std.specs.Prelude.{ℕ, ◌+◌, cond, List, [], ◌∷◌, length, drop, Some, None, Option, nat_le}
use Rattle.rules.specs.Orders.{Bytes}
use Rattle.rules.specs.Lines.{lines, code}
use Rattle.lexer.specs.declared.lines.Lines.{Lines}
use Rattle.lexer.specs.declared.lines.Line.{Line}

-- a list without its first
abbrev pub but_first : {A : Type 0} → List A → List A
but_first [] = []
but_first (x ∷ xs) = xs

-- the lines from a place on; none behind the end
abbrev pub lines_from : ℕ → Bytes → List Bytes
lines_from at bs = cond (nat_le at (length bs)) (lines (drop at bs)) []

abbrev pub lines_left : Lines → List Bytes
lines_left l = lines_from l.at l.text.now

-- a line is its number and its code
abbrev pub line_told : Line → ℕ × Bytes
line_told l = (l.number, l.code.now)

-- the first of the lines behind line n
abbrev pub next_line : ℕ → List Bytes → Option (ℕ × Bytes)
next_line n [] = None
next_line n (l ∷ ls) = Some (n + 1, code l)

-- lines behind line n, each as its number and its code
abbrev pub numbered : ℕ → List Bytes → List (ℕ × Bytes)
numbered n [] = []
numbered n (l ∷ ls) = (n + 1, code l) ∷ numbered (n + 1) ls

abbrev pub lines_ahead : Lines → List (ℕ × Bytes)
lines_ahead l = numbered l.line (lines_left l)
