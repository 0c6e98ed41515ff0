-- Fields as they are written, for examples. Assumes nothing.
use Rattle.std.specs.Prelude.{ℕ, ◌/◌, ◌%◌, ◌∷◌, length}
use Rattle.rules.specs.Orders.{Bytes}

-- a field with a tag and at most 65,535 bytes
abbrev pub field : ℕ → Bytes → Bytes
field t bs = t ∷ (length bs / 256) ∷ (length bs % 256) ∷ bs
