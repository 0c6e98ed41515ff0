use Rattle.rules.proofs.Reached.{sheets_right}
use Rattle.rules.proofs.sheet_stands.Goals as goal

pub returns : goal.returns
returns c = sheets_right
