use Rattle.rules.proofs.Layers.{two_layers_right}
use Rattle.rules.proofs.two_layers_stand.Goals as goal

pub returns : goal.returns
returns c = two_layers_right
