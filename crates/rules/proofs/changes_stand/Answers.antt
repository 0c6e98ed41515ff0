use Rattle.rules.proofs.Changes.{changes_right}
use Rattle.rules.proofs.changes_stand.Goals as goal

pub returns : goal.returns
returns c = changes_right
