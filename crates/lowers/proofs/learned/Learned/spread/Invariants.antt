-- What was marked so far; each pass marks another place, or is the last. Assumes nothing.
use Rattle.std.proofs.Common.{◌≡◌}
use Rattle.lowers.specs.Learned.{edges_in}
use Rattle.lowers.specs.Spreads.{unmarked, Spread}
use Rattle.lowers.proofs.learned.Learned.spread.Given as goal

abbrev pub invariant-loop : goal.invariant-loop
invariant-loop l = (edges_in l.self ≡ edges_in l.initial.self) × Spread (edges_in l.initial.self) l.initial.self.marked l.self.marked

abbrev pub decreases-loop : goal.decreases-loop
decreases-loop l = unmarked l.self.marked
