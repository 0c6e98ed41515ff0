use Rattle.rules.proofs.Faults.{refusal_right}
use Rattle.rules.proofs.refusal_stands.Goals as goal

pub returns : goal.returns
returns c = refusal_right
