use Rattle.rules.proofs.Layers.{pile_right}
use Rattle.rules.proofs.pile_stands.Goals as goal

pub returns : goal.returns
returns c = pile_right
