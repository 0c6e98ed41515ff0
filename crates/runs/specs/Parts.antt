-- A part of a text. Assumes nothing.
use Rattle.std.specs.Prelude.{ℕ, ◌-◌, cond, ◌&&◌, [], length, take, drop, nat_le}
use Rattle.rules.specs.Orders.{Bytes}

-- the bytes from `start` to before `end`; none, if they do not lie in the text in that order
abbrev pub part_of : Bytes → ℕ → ℕ → Bytes
part_of text start end = cond (nat_le start end && nat_le end (length text)) (take (end - start) (drop start text)) []
