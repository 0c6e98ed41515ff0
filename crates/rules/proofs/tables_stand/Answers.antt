-- proofs/tables_stand/Answers.antt
use Rattle.rules.proofs.Tables.{tables_right}
use Rattle.rules.proofs.tables_stand.Goals as goal

pub returns : goal.returns
returns g c = tables_right _ _
