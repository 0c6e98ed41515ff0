-- What is left finds what the whole does. Assumes nothing.
use Rattle.std.proofs.Common.{◌≡◌, length}
use Rattle.modules.specs.Rows.{names_of}
use Rattle.fields.specs.Pairs.{pairs_in}
use Rattle.bottoms.specs.Seeking.{first_from}
use Rattle.bottoms.proofs.pairs.find_pair.Given as goal

abbrev pub invariant-loop-pair : goal.invariant-loop-pair
invariant-loop-pair g l = first_from (g.P.Pairs.asked (names_of l.of)) (pairs_in l.bytes) ≡ first_from (g.P.Pairs.asked (names_of l.of)) (pairs_in l.rest)

abbrev pub decreases-loop-pair : goal.decreases-loop-pair
decreases-loop-pair g l = length l.rest
