use Rattle.rules.specs.Paths.{path_order}
use Rattle.names.proofs.path.kind.PathsGrammar.compare.Goals as goal

pub returns : goal.returns
unfolding path_order
returns c = c.compare_bytes.ensures
