use Rattle.rules.proofs.Runs.{runs_right}
use Rattle.rules.proofs.runs_stand.Goals as goal

pub returns : goal.returns
returns c = runs_right
