-- The ceilings of the rows that were gone through stand there. Assumes nothing.
use Rattle.names.specs.Paths.{path_bytes}
use Rattle.versions.specs.Values.{version_bytes}
use Rattle.lowers.proofs.Looking.{Ceiled}
use Rattle.lowers.proofs.ceilings.uses.ceilings_over.Given as goal

abbrev pub invariant-loop-row : goal.invariant-loop-row
invariant-loop-row l = Ceiled (path_bytes l.path) (version_bytes l.version) l.rows l.ceilings.items l.row-index
