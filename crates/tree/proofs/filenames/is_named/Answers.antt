-- What stands behind the path and the version is the ending, or not. Assumes nothing.
use Rattle.std.proofs.Common.{of_calls}
use Rattle.modules.specs.Rows.{names_of}
use Rattle.tree.proofs.Spelled.{named_by}
use Rattle.tree.proofs.filenames.is_named.Goals as goal

pub returns : goal.returns
returns c =
    record {
      value = named_by c.args.ending.now c.args.name.now (names_of c.args.of.now) c.is_some_and.result _ (λ s p. search of_calls) c.behind_version.result c.behind_version.ensures.value c.is_some_and.ensures;
    }
