-- What is left of the slice gives the place. Assumes nothing.
use Rattle.ordered.proofs.Seeking.{Left}
use Rattle.ordered.proofs.slices.search.Given as goal

abbrev pub invariant-loop-i : goal.invariant-loop-i
invariant-loop-i g l = Left g.T.Keyed.keyed g.K.Ordered.order l.key l.items l.i
