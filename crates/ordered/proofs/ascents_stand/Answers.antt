-- The theorem is proved in Ascents. Assumes nothing.
use Rattle.ordered.proofs.Ascents.{ascents_right}
use Rattle.ordered.proofs.ascents_stand.Goals as goal

pub returns : goal.returns
returns g c = ascents_right g.row.T.Denot g.row.K.Denot
