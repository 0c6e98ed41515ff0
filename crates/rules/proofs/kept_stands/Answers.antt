use Rattle.rules.proofs.Marks.{kept_meant}
use Rattle.rules.proofs.kept_stands.Goals as goal

pub returns : goal.returns
returns c = kept_meant
