-- What is stripped is the end. Assumes nothing.
use Rattle.std.proofs.lemmas.Slice.Eq.{strip_suffix_is}
use Rattle.tree.proofs.Spelled.{before_told}
use Rattle.tree.proofs.filenames.strip_ending.Goals as goal
use Rattle.std.proofs.lemmas.Bool.Decides.{Decides-eqb}

pub returns : goal.returns
returns c = record { value = before_told c.args.bytes.now c.args.ending.now _ (strip_suffix_is Decides-eqb c.args.bytes.now c.args.ending.now _ c.strip_suffix.ensures.cases) }
