-- The theorem is proved in Placing. Assumes nothing.
use Rattle.ordered.proofs.Placing.{places_right}
use Rattle.ordered.proofs.places_stand.Goals as goal

pub returns : goal.returns
returns g c = places_right g.row.T.Denot g.row.K.Denot
