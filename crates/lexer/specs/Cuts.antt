-- Where a text is cut into a first line and the rest, and a line into code and comment. Assumes nothing.
use Rattle.std.specs.Prelude.{ℕ, Bool, false, not, ◌&&◌, [], ◌∷◌, take, ◌==◌}
use Rattle.std.specs.List.{prefix_len}
use Rattle.rules.specs.Orders.{Bytes}
use Rattle.rules.specs.Texts.{slash}

-- a byte that ends no line
abbrev pub in_line : ℕ → Bool
in_line b = not (b == 10)

abbrev pub first_line : Bytes → Bytes
first_line bs = take (prefix_len in_line bs) bs

-- two slashes
abbrev pub begins_with_comment : Bytes → Bool
begins_with_comment [] = false
begins_with_comment (b ∷ []) = false
begins_with_comment (b ∷ c ∷ bs) = b == slash && c == slash
