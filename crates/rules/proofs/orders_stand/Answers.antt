use Rattle.rules.proofs.Precedence.{orders_right}
use Rattle.rules.proofs.orders_stand.Goals as goal

pub returns : goal.returns
returns c = orders_right
