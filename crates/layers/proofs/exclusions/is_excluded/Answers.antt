use Rattle.std.proofs.Common.{◌∙◌}
use Rattle.modules.specs.Rows.{row_names}
use Rattle.modules.specs.Tables.{exclusion_names}
use Rattle.layers.proofs.Lookups.{lookup_has, names_ascend}
use Rattle.layers.proofs.exclusions.is_excluded.Goals as goal

pub returns : goal.returns
returns c = record { value = c.has.ensures ∙ lookup_has (row_names c.args.row.now) (exclusion_names c.args.exclusions.now) (names_ascend c.args.exclusions.now) }
