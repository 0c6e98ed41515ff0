-- Two paths are equal where their order says so. Assumes nothing.
use Rattle.std.proofs.Common.{ap, ◌∙◌}
use Rattle.std.specs.Ordering.{is_eq}
use Rattle.rules.specs.Paths.{path_order}
use Rattle.rules.proofs.Order.{paths, laws_of}
use Rattle.names.specs.Paths.{PlainPath, plain_path_bytes}
use Rattle.names.specs.FormedLemmas.{plain_tied}
use Rattle.walks.proofs.sheet.is_on.Goals as goal

pub returns : goal.returns
returns c = record {
  value = c.eq.ensures ∙ plain_tied (laws_of paths) c.args.row.now.path c.plain.result ∙ ap (λ (p : PlainPath). is_eq (path_order (plain_path_bytes c.args.row.now.path) (plain_path_bytes p))) c.plain.ensures;
}
