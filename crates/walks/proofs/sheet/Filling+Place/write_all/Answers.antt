-- One row more, a row for which there is no room, and the end. Assumes nothing.
use Rattle.std.proofs.Common.{◌≡◌, ℕ, List, Result, ◌∙◌, subst}
use Rattle.std.proofs.lemmas.Result.{err_from_is_err_and}
use Rattle.rules.specs.Orders.{Bytes}
use Rattle.rules.specs.Names.{ModuleVersion}
use Rattle.rules.specs.Walks as R
use Rattle.rules.specs.Walks.{if_room, ended, done}
use Rattle.causes.specs.declared.refusal.Refusal.{Refusal}
use Rattle.names.specs.Paths.{path_bytes}
use Rattle.walks.specs.Sheets.{sheet_of, EndsAs}
use Rattle.walks.proofs.Fillings.{sheet_short}
use Rattle.walks.proofs.Writing.{one, turn_more, turn_full, turn_whole}
use Rattle.walks.proofs.sheet.Filling+Place.write_all.Goals as goal

-- the row that was written is that of the item
of_item : (main : Bytes) (from : ℕ) (front : List R.Place) (row item : ModuleVersion) (r : Result (Unit {0}) Refusal) (left : List R.Place) → row ≡ item
    → EndsAs {A = Unit {0}} (if_room (ended done) (one main from row front)) r left → EndsAs {A = Unit {0}} (if_room (ended done) (one main from item front)) r left
of_item main from front row item r left e t = subst (λ x. EndsAs {A = Unit {0}} (if_room (ended done) (one main from x front)) r left) e t

pub loop-row-preserved : goal.loop-row-preserved
loop-row-preserved g c =
    let (same, so_far) = c.loop-row.invariant in
    let main = path_bytes c.args.main.now in
    let front = sheet_of c.loop-row.self in (
      c.write.ensures.same_reference ∙ same,
      turn_more g.T.AsRow.names main c.args.from c.args.rows.now (sheet_of c.args.self.now) c.loop-row.row-index c.row-item.result c.row-item.result
          c.loop-row-test.true c.row-item.is front so_far (sheet_of c.write.new.self)
          (of_item main c.args.from front _ _ _ (sheet_of c.write.new.self) c.as_row.ensures.value c.in_ok-write.ensures.value),
    )

pub returns-in_err-write-clause-value : goal.returns-in_err-write-clause-value
returns-in_err-write-clause-value g c =
    let (same, so_far) = c.loop-row.invariant in
    let main = path_bytes c.args.main.now in
    let front = sheet_of c.loop-row.self in
    let p = err_from_is_err_and c.from_residual.result c.from_residual.ensures.1 in
    rw (p.1, p.2) (turn_full g.T.AsRow.names main c.args.from c.args.rows.now (sheet_of c.args.self.now) c.loop-row.row-index c.row-item.result c.row-item.result
    c.loop-row-test.true c.row-item.is front so_far (sheet_of c.write.new.self) c.in_err-write.field-0.0
    (of_item main c.args.from front _ _ _ (sheet_of c.write.new.self) c.as_row.ensures.value c.in_err-write.ensures.value))

pub returns-clause-value : goal.returns-clause-value
returns-clause-value g c =
    let (same, so_far) = c.loop-row.invariant in
    turn_whole g.T.AsRow.names (path_bytes c.args.main.now) c.args.from c.args.rows.now (sheet_of c.args.self.now) c.loop-row.row-index c.loop-row-test.false (sheet_of c.loop-row.self) (sheet_short c.loop-row.self) so_far
