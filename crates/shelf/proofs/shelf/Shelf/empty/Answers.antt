-- An empty buffer is a shelf. Assumes nothing.
use Rattle.std.proofs.Common.{refl}
use Rattle.fields.specs.Fields.{cuts, pieces}
use Rattle.fields.specs.Openings.{opened}
use Rattle.shelf.specs.Grammar.{opening}
use Rattle.shelf.proofs.shelf.Shelf.empty.Goals as goal

pub invariant_of-result : goal.invariant_of-result
unfolding opening opened pieces cuts
invariant_of-result c = record { ok = refl }
