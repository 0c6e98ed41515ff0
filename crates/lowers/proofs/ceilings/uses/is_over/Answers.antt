-- Two paths are equal where their order says so. Assumes nothing.
use Rattle.std.proofs.Common.{Bool, ◌&&◌, sym, ap, ◌∙◌}
use Rattle.std.specs.Ordering.{is_lt}
use Rattle.rules.specs.Versions.{version_order}
use Rattle.rules.proofs.Order.{paths, laws_of}
use Rattle.names.specs.FormedLemmas.{plain_tied}
use Rattle.modules.specs.Rows.{row_names}
use Rattle.lowers.proofs.ceilings.uses.is_over.Goals as goal

pub returns-then-eq : goal.returns-then-eq
returns-then-eq c =
    let lower = is_lt (version_order (row_names c.args.ceiling.now).version (row_names c.args.row.now).version) in
    record { value = c.lt.ensures ∙ ap (λ (b : Bool). b && lower) (c.if-eq.ensures ∙ plain_tied (laws_of paths) c.args.ceiling.now.path c.args.row.now.path) }

pub returns-else-eq : goal.returns-else-eq
returns-else-eq c =
    let lower = is_lt (version_order (row_names c.args.ceiling.now).version (row_names c.args.row.now).version) in
    record { value = c.eq.ensures ∙ sym c.if-eq.ensures ∙ ap (λ (b : Bool). b && lower) (c.if-eq.ensures ∙ plain_tied (laws_of paths) c.args.ceiling.now.path c.args.row.now.path) }
