-- The pass, as far as it has come. Assumes nothing.
use Rattle.lowers.proofs.Spreading.{Passing}
use Rattle.lowers.proofs.learned.spread.spread_over.Given as goal

abbrev pub invariant-loop-edge : goal.invariant-loop-edge
invariant-loop-edge l = Passing l.edges l.initial.marked l.edge-index l.more l.marked
