use Rattle.rules.proofs.Lists.{list_right}
use Rattle.rules.proofs.list_stands.Goals as goal

pub returns : goal.returns
returns c = list_right
