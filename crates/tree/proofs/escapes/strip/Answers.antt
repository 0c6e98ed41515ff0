-- What is stripped is the front. Assumes nothing.
use Rattle.std.proofs.lemmas.Slice.Eq.{strip_prefix_is}
use Rattle.tree.proofs.Spelled.{behind_told}
use Rattle.tree.proofs.escapes.strip.Goals as goal
use Rattle.std.proofs.lemmas.Bool.Decides.{Decides-eqb}

pub returns : goal.returns
returns c = record { value = behind_told c.args.bytes.now c.args.text.now _ (strip_prefix_is Decides-eqb c.args.bytes.now c.args.text.now _ c.strip_prefix.ensures.cases) }
