-- At most 32 rows make a table of at most 32. Assumes nothing.
use Rattle.std.proofs.Common.{◌≤◌, List, [], map, length, arith}
use lib.ListN.{length-map}
use Rattle.rules.specs.Names.{module_order}
use Rattle.rules.specs.Tables.{keep}
use Rattle.rules.specs.Rows.{own, exclusion_table}
use Rattle.rules.proofs.Tables.{entered_all_most}
use Rattle.modules.specs.Rows.{row_names}
use Rattle.modules.specs.Tables.{exclusion_names}
use Rattle.modules.specs.declared.rows.Row.{Row}
use Rattle.project.proofs.Fitting.{there, holds_all}
use Rattle.project.proofs.loading.exclusions_of.Goals as goal

few : (rows : List Row) → length rows ≤ 32 → length (exclusion_table (map row_names rows)) ≤ 32
few rows h = omega (arith, entered_all_most own module_order keep [] (map row_names rows), length-map rows row_names)

pub unwrap-requires : goal.unwrap-requires
unwrap-requires c = let rows = c.args.rows.now in there exclusion_names 32 (exclusion_table (map row_names rows)) (few rows c.requires) c.of.result c.of.ensures

pub returns : goal.returns
returns c =
    let rows = c.args.rows.now in
    record { value = holds_all exclusion_names 32 (exclusion_table (map row_names rows)) (few rows c.requires) c.of.result c.unwrap.result c.of.ensures c.unwrap.ensures }
