-- Files as a tree buffer holds them, when one more fits, and that what is packed is read again. Assumes nothing.
use Rattle.std.specs.Prelude.{◌≡◌, ◌+◌, ◌<◌, ◌≤◌, max, true, List, [], ◌∷◌, ◌++◌, map, length}
use Rattle.rules.specs.Orders.{Bytes}
use Rattle.fields.specs.Samples.{field}
use Rattle.fields.specs.Pairs.{Pair, pairs_in}
use Rattle.tree.specs.Grammar.{tag_N, tag_B, is_tree}
use Rattle.commands.specs.declared.packing.NotPacked.{NotPacked}
use Rattle.commands.specs.declared.packing.NotPacked.TheVariants.{FileTooLong, BufferTooLong, NoMemory}

-- a file: its name and its body
abbrev pub file : Bytes → Bytes → Bytes
file name body = field tag_N name ++ field tag_B body

-- there is room for it in a buffer
abbrev pub Fits : Bytes → Bytes → Bytes → Type 0
Fits buffer name body = (length name ≤ 65535) × (length body ≤ 65535) × (length buffer + length (file name body) ≤ 65536)

-- why there is none
abbrev pub Told : NotPacked → Bytes → Bytes → Bytes → Type 0
Told FileTooLong buffer name body = 65535 < max (length name) (length body)
Told BufferTooLong buffer name body = 65536 < length buffer + length (file name body)
Told NoMemory buffer name body = Unit {0}

-- files by their names and bodies, one behind the other
abbrev pub packed : List (Bytes × Bytes) → Bytes
packed [] = []
packed (f ∷ fs) = file f.0 f.1 ++ packed fs

-- a file as a tree holds it
abbrev pub held_file : Bytes × Bytes → Pair
held_file f = record { tag = tag_N; first = f.0; second = f.1 }

-- WHAT IS PACKED: files up to the limit are a tree, and it holds just these, in this order; one more file goes to the end
pub record PackingRight : Type 0 where
  pub accepted : (fs : List (Bytes × Bytes)) → length (packed fs) ≤ 65536 → is_tree (packed fs) ≡ true
  pub held : (fs : List (Bytes × Bytes)) → pairs_in (packed fs) ≡ map held_file fs
  pub one_more : (fs : List (Bytes × Bytes)) (name body : Bytes) → packed (fs ++ (name, body) ∷ []) ≡ packed fs ++ file name body
