use Rattle.rules.proofs.Lowers.{lower_right}
use Rattle.rules.proofs.lower_stands.Goals as goal

pub returns : goal.returns
returns c = lower_right
