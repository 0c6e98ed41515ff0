use Rattle.rules.proofs.Layers.{fallback_right}
use Rattle.rules.proofs.fallback_stands.Goals as goal

pub returns : goal.returns
returns c = fallback_right
