-- One row more, a row for which there is no room, and the end. Assumes nothing.
use Rattle.std.proofs.Common.{◌∙◌, arith}
use Rattle.std.proofs.lemmas.Result.{err_from_is_err_and}
use Rattle.names.specs.Paths.{path_bytes}
use Rattle.modules.specs.Rows.{row_names}
use Rattle.walks.specs.Sheets.{sheet_of}
use Rattle.walks.proofs.Fillings.{sheet_short}
use Rattle.walks.proofs.Writing.{turn_more, turn_full, turn_whole}
use Rattle.lowers.specs.Learned.{edges_in}
use Rattle.lowers.proofs.Edging.{upto_short, edges_turn}
use Rattle.lowers.proofs.edges.write_edges.Goals as goal

pub write_edge-requires-clause-room : goal.write_edge-requires-clause-room
write_edge-requires-clause-room c =
    let (named, so_far, marks, edged) = c.loop-row.invariant in
    omega (arith, c.requires.room, edged.few, upto_short (path_bytes c.args.main.now) c.args.at c.args.rows.now c.loop-row.row-index, c.loop-row-test.true)

pub loop-row-preserved : goal.loop-row-preserved
loop-row-preserved c =
    let (named, so_far, marks, edged) = c.loop-row.invariant in
    let main = path_bytes c.args.main.now in
    let front = sheet_of c.loop-row.sheet in
    let left = sheet_of c.write_edge.new.sheet in (
      c.write_edge.ensures.same_reference ∙ named,
      turn_more row_names main c.args.at c.args.rows.now (sheet_of c.args.sheet.now) c.loop-row.row-index c.row-item.result c.row-item.result
          c.loop-row-test.true c.row-item.is front so_far left c.in_ok-write_edge.ensures.value,
      c.in_ok-write_edge.ensures.marks ∙ marks,
      edges_turn main c.args.at c.args.rows.now c.loop-row.row-index c.row-item.result c.loop-row-test.true c.row-item.is front left
          (edges_in c.args.learned.now) (edges_in c.loop-row.learned) (edges_in c.write_edge.new.learned) edged c.in_ok-write_edge.ensures.value c.in_ok-write_edge.ensures.edges,
    )

pub returns-in_err-write_edge-clause-value : goal.returns-in_err-write_edge-clause-value
returns-in_err-write_edge-clause-value c =
    let (named, so_far, marks, edged) = c.loop-row.invariant in
    let p = err_from_is_err_and c.from_residual.result c.from_residual.ensures.1 in
    rw (p.1, p.2)
    (turn_full row_names (path_bytes c.args.main.now) c.args.at c.args.rows.now (sheet_of c.args.sheet.now) c.loop-row.row-index c.row-item.result c.row-item.result
    c.loop-row-test.true c.row-item.is (sheet_of c.loop-row.sheet) so_far (sheet_of c.write_edge.new.sheet) c.in_err-write_edge.field-0.0 c.in_err-write_edge.ensures.value)

pub returns-clause-value : goal.returns-clause-value
returns-clause-value c =
    let (named, so_far, marks, edged) = c.loop-row.invariant in
    turn_whole row_names (path_bytes c.args.main.now) c.args.at c.args.rows.now (sheet_of c.args.sheet.now) c.loop-row.row-index c.loop-row-test.false (sheet_of c.loop-row.sheet) (sheet_short c.loop-row.sheet) so_far
