use Rattle.rules.proofs.Questions.{questions_right}
use Rattle.rules.proofs.questions_stand.Goals as goal

pub returns : goal.returns
returns c = questions_right
