use Rattle.rules.proofs.Lowers.{sets_right}
use Rattle.rules.proofs.sets_stand.Goals as goal

pub returns : goal.returns
returns g c = sets_right _
