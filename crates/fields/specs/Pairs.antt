-- Fields in pairs. Assumes nothing.
use Rattle.std.specs.Prelude.{ℕ, List, [], ◌∷◌, Some, None, Option}
use Rattle.rules.specs.Orders.{Bytes}
use Rattle.fields.specs.Fields.{Cut, field_of, Piece, whole, torn, pieces}

-- the bytes of two fields, and the tag of the first
pub record Pair : Type 0 where
  pub tag : ℕ
  pub first : Bytes
  pub second : Bytes

-- the pairs in front of a piece that is torn, alone or the last
abbrev pub pairs : List Piece → List Pair
pairs [] = []
pairs (torn ∷ ps) = []
pairs (whole t a ∷ []) = []
pairs (whole t a ∷ torn ∷ ps) = []
pairs (whole t a ∷ whole u b ∷ ps) = record { tag = t; first = a; second = b } ∷ pairs ps

unfoldable pub pairs_in : Bytes → List Pair
pairs_in bs = pairs (pieces bs)

-- a pair that is cut off the front of bytes, and the bytes behind it
pub record PairCut : Type 0 where
  pub pair : Pair
  pub after : Bytes

abbrev pub with_second : Cut → Option Cut → Option PairCut
with_second f None = None
with_second f (Some g) = Some (record { pair = record { tag = f.tag; first = f.body; second = g.body }; after = g.after })

abbrev pub with_first : Option Cut → Option PairCut
with_first None = None
with_first (Some f) = with_second f (field_of f.after)

-- the two fields that bytes begin with
abbrev pub pair_of : Bytes → Option PairCut
pair_of bs = with_first (field_of bs)
