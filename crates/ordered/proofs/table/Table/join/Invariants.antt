-- What was gone through is joined. Assumes nothing.
use Rattle.std.proofs.Common.{◌≡◌, ◌≤◌, take, length}
use Rattle.rules.specs.Tables.{joined}
use Rattle.ordered.specs.Held.{held}
use Rattle.ordered.proofs.table.Table.join.Given as goal

abbrev pub invariant-loop-item : goal.invariant-loop-item
invariant-loop-item g l = (held l.all ≡ joined g.T.Keyed.keyed g.K.Ordered.order (held l.self) (take l.item-index l.other)) × (length (held l.all) ≤ g.row.N)
