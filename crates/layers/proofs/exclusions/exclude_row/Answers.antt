-- What the table answers, each refusal by its cause. Assumes nothing.
use Rattle.std.proofs.Common.{of_calls, ap, ◌∙◌}
use Rattle.modules.specs.Rows.{row_names}
use Rattle.modules.specs.Tables.{exclusion_names}
use Rattle.layers.proofs.Lookups.{names_ascend}
use Rattle.layers.proofs.Admitted.{by_cause, mapped_by, exclusion_answered}
use Rattle.layers.proofs.exclusions.exclude_row.Goals as goal

pub returns-clause-value : goal.returns-clause-value
returns-clause-value c =
    let t = c.args.exclusions.now in
    mapped_by c.add.result c.map_err.result _ (λ e d q. search of_calls) c.map_err.ensures.cases
    ∙ ap by_cause c.add.ensures.value ∙ exclusion_answered (row_names c.args.row) (exclusion_names t) (names_ascend t)
