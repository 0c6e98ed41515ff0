use Rattle.rules.proofs.Tidy.{tidy_right}
use Rattle.rules.proofs.tidy_stands.Goals as goal

pub returns : goal.returns
returns c = tidy_right
