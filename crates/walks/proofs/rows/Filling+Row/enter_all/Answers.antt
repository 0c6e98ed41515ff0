-- There is room for one row more, since there is room for all. Assumes nothing.
use Rattle.std.proofs.Common.{length, ap, ◌∙◌, arith}
use Rattle.std.proofs.lemmas.List.{length-map}
use Rattle.names.specs.Paths.{path_bytes}
use Rattle.modules.specs.Rows.{row_names}
use Rattle.walks.specs.Fillings.{items_of}
use Rattle.walks.specs.Views.{entered_off}
use Rattle.walks.proofs.Entering.{tabled_fits, tabled_more}
use Rattle.walks.proofs.rows.Filling+Row.enter_all.Goals as goal

pub enter_off-requires : goal.enter_off-requires
enter_off-requires c =
    let (same, so_far) = c.loop-place.invariant in
    record {
      room = omega (arith, c.requires.room, ap length so_far, length-map (items_of c.loop-place.self) row_names, tabled_fits (path_bytes c.args.main.now) c.args.sheet.now c.loop-place.place-index);
    }

pub loop-place-preserved : goal.loop-place-preserved
loop-place-preserved c =
    let (same, so_far) = c.loop-place.invariant in
    let main = path_bytes c.args.main.now in
    let p = c.place-item.result in (
      c.enter_off.ensures.same_reference ∙ same,
      c.enter_off.ensures.after ∙ ap (entered_off main (row_names p.row)) so_far ∙ tabled_more main c.args.sheet.now c.loop-place.place-index p p c.loop-place-test.true c.place-item.is,
    )
