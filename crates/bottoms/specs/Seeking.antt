-- The first pair that is asked for, with those behind it. Assumes nothing.
use Rattle.std.specs.Prelude.{Bool, cond, List, [], ◌∷◌, Some, None, Option}
use Rattle.fields.specs.Pairs.{Pair, pairs_in, PairCut}

-- a pair, and the pairs behind it
pub record Seen : Type 0 where
  pub pair : Pair
  pub after : List Pair

abbrev pub seen : PairCut → Seen
seen p = record { pair = p.pair; after = pairs_in p.after }

abbrev pub first_from : (Pair → Bool) → List Pair → Option Seen
first_from asked [] = None
first_from asked (q ∷ qs) = cond (asked q) (Some (record { pair = q; after = qs })) (first_from asked qs)
