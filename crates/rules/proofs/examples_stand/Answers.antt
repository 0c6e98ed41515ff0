use Rattle.rules.proofs.Examples.{examples}
use Rattle.rules.proofs.examples_stand.Goals as goal

pub returns : goal.returns
returns c = examples
