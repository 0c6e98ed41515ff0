-- At most 256 rows make a table of at most 256, and of well-formed ones. Assumes nothing.
use Rattle.std.proofs.Common.{◌≤◌, List, [], map, length, refl, ap, ◌∙◌, arith}
use lib.ListN.{length-map}
use Rattle.rules.specs.Names.{is_module_version}
use Rattle.rules.specs.Paths.{path_order}
use Rattle.rules.specs.Texts.{every}
use Rattle.rules.specs.Rows.{path_of, higher, table}
use Rattle.rules.proofs.Tables.{entered_all_most}
use Rattle.modules.specs.Rows.{row_names}
use Rattle.modules.specs.Tables.{requirement_names}
use Rattle.modules.specs.declared.rows.Row.{Row}
use Rattle.project.proofs.Fitting.{there, holds_all}
use Rattle.project.proofs.Formed.{formed_table}
use Rattle.project.proofs.main_module.MainModule.of.Goals as goal

few : (rows : List Row) → length rows ≤ 256 → length (table (map row_names rows)) ≤ 256
few rows h = omega (arith, entered_all_most path_of path_order higher [] (map row_names rows), length-map rows row_names)

pub unwrap-requires : goal.unwrap-requires
unwrap-requires c = let rows = c.args.rows.now in there requirement_names 256 (table (map row_names rows)) (few rows c.requires.0) c.of.result c.of.ensures.value

pub invariant_of-result : goal.invariant_of-result
invariant_of-result c =
    let rows = c.args.rows.now in
    record {
      formed = ap (every is_module_version) (holds_all requirement_names 256 (table (map row_names rows)) (few rows c.requires.0) c.of.result c.unwrap.result c.of.ensures.value c.unwrap.ensures)
          ∙ formed_table (map row_names rows) c.requires.1;
    }

pub returns : goal.returns
returns c =
    let rows = c.args.rows.now in
    record { path = refl; value = holds_all requirement_names 256 (table (map row_names rows)) (few rows c.requires.0) c.of.result c.unwrap.result c.of.ensures.value c.unwrap.ensures }
