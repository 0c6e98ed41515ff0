-- Bytes as fields. A field is a tag byte, two length bytes with the high one first, and that many bytes. Assumes nothing.
use Rattle.std.specs.Prelude.{ℕ, zero, suc, ◌+◌, ◌*◌, cond, List, [], ◌∷◌, length, take, drop, Some, None, Option, nat_le}
use Rattle.rules.specs.Orders.{Bytes}

-- a field that is cut off the front of bytes: its tag, its own bytes, and the bytes behind it
pub record Cut : Type 0 where
  pub tag : ℕ
  pub body : Bytes
  pub after : Bytes

-- the field that bytes begin with; none if it is cut: three bytes are not there, or fewer than its length says
abbrev pub field_of : Bytes → Option Cut
field_of [] = None
field_of (t ∷ []) = None
field_of (t ∷ h ∷ []) = None
field_of (t ∷ h ∷ l ∷ rest) =
    cond (nat_le (h * 256 + l) (length rest))
    (Some (record { tag = t; body = take (h * 256 + l) rest; after = drop (h * 256 + l) rest }))
    None

-- a whole field, its tag and its own bytes; or the rest of the bytes, which has none
pub data Piece : Type 0 where
  whole : ℕ → Bytes → Piece
  torn : Piece

-- what comes behind a first field, or where there is none
abbrev pub cut_on : (Bytes → List Piece) → Option Cut → List Piece
cut_on next None = torn ∷ []
cut_on next (Some f) = whole f.tag f.body ∷ next f.after

-- at most k pieces
unfoldable pub cuts : ℕ → Bytes → List Piece
cuts zero bs = []
cuts (suc k) [] = []
cuts (suc k) (b ∷ bs) = cut_on (cuts k) (field_of (b ∷ bs))

-- All pieces of bytes, in their order. Each takes a byte at least. The first stands at offset 0, and each other one three bytes and the
-- length of its body behind the one before.
unfoldable pub pieces : Bytes → List Piece
pieces bs = cuts (length bs) bs
