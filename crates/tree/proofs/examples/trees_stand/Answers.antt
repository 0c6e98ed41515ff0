-- By computation. Assumes nothing.
use Rattle.std.proofs.Common.{refl}
use Rattle.rules.specs.Orders.{lexical}
use Rattle.rules.specs.Versions.{parted, version_order}
use Rattle.fields.specs.Fields.{cuts, pieces}
use Rattle.fields.specs.Pairs.{pairs_in}
use Rattle.fields.specs.Openings.{opened}
use Rattle.tree.specs.Grammar.{opening}
use Rattle.tree.proofs.examples.trees_stand.Goals as goal

pub returns : goal.returns
unfolding opening opened pieces cuts pairs_in lexical parted version_order
returns c = record { spelled = refl; opened = refl; held = refl; answered = refl; listed = refl }
