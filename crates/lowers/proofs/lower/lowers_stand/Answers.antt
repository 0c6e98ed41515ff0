-- The theorem is proved in Ending. Assumes nothing.
use Rattle.lowers.proofs.Ending.{lower_stands}
use Rattle.lowers.proofs.lower.lowers_stand.Goals as goal

pub returns : goal.returns
returns c = lower_stands
