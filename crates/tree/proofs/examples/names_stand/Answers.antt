-- What is written is read again, and what is read was written. Assumes nothing.
use Rattle.tree.proofs.Spelled.{names_right}
use Rattle.tree.proofs.examples.names_stand.Goals as goal

pub returns : goal.returns
returns c = names_right
