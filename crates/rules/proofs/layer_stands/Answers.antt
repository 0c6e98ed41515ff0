use Rattle.rules.proofs.Layers.{layer_right}
use Rattle.rules.proofs.layer_stands.Goals as goal

pub returns : goal.returns
returns c = layer_right
