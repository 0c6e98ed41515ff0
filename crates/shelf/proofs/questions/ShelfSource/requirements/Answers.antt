-- One way for each answer. The rows of a record are few and well formed, since a shelf is lawful. Assumes nothing.
use Rattle.std.proofs.Common.{◌≤◌, List, [], length, sym, refl, ap, ◌∙◌, arith, leb-true, leb-false}
use Rattle.std.specs.Option.{option_map}
use Rattle.rules.specs.Sources.{fault, missing_here}
use Rattle.rules.specs.Questions.{too_short}
use Rattle.rules.specs.Slices.{blank, filled}
use Rattle.rules.specs.Names.{ModuleVersion}
use Rattle.modules.specs.declared.rows.Row.{Row}
use Rattle.modules.specs.Rows.{row_names, names_of}
use Rattle.fields.specs.Pairs.{pairs_in}
use Rattle.source.proofs.Telling.{tells_short, tells_fault}
use Rattle.bottoms.specs.Items.{first_of}
use Rattle.bottoms.specs.Seeking.{Seen}
use Rattle.bottoms.proofs.Entering.{rows_told}
use Rattle.shelf.specs.Laws.{shelf_lawful}
use Rattle.shelf.specs.Records.{rows_at, records, is_record_of, shelf_meaning}
use Rattle.shelf.proofs.Paired.{record_sought, record_found, record_missing}
use Rattle.shelf.proofs.questions.ShelfSource.requirements.Goals as goal

abbrev rows_behind : Seen → List ModuleVersion
rows_behind s = rows_at s.after

pub returns-in_err-check_room-clause-items : goal.returns-in_err-check_room-clause-items
returns-in_err-check_room-clause-items c =
    let n = length c.args.rows.now in
    (tells_short row_names blank n _ c.blank.result (fault too_short) _ (leb-false 64 n (sym c.in_err-check_room.ensures.long)) c.blank.ensures refl c.in_err-check_room.ensures.items).1

pub copy_rows-requires : goal.copy_rows-requires
copy_rows-requires c =
    let bs = c.args.self.now.bytes.now in
    let x = names_of c.args.of.now in
    let rs = rows_at (pairs_in c.in-Some.head.after.now) in
    let law = shelf_lawful bs c.args.self.now.ok in
    let is = record_found (first_of is_record_of x (records (pairs_in bs))) rs (ap (option_map rows_behind) c.in-Some.ensures.value ∙ record_sought x (pairs_in bs)) in
    let long : 64 ≤ length c.args.rows.now = leb-true 64 (length c.args.rows.now) (sym c.in_ok-check_room.ensures.long) in
    (omega (arith, law.few_rows x rs is, long, ap length c.in_ok-check_room.ensures.items), law.rows_formed x rs is)

pub returns-in-Some : goal.returns-in-Some
returns-in-Some c =
    let n = length c.args.rows.now in
    let bs = c.args.self.now.bytes.now in
    let x = names_of c.args.of.now in
    let rs = rows_at (pairs_in c.in-Some.head.after.now) in
    let is = record_found (first_of is_record_of x (records (pairs_in bs))) rs (ap (option_map rows_behind) c.in-Some.ensures.value ∙ record_sought x (pairs_in bs)) in
    let same = ap (λ (ys : List Row). filled blank (length ys) rs) c.in_ok-check_room.ensures.items in
    let (value, items) = rows_told n c.copy_rows.result ((shelf_meaning bs).requirements x) rs _ (leb-true 64 n (sym c.in_ok-check_room.ensures.long)) is
    c.copy_rows.ensures.value (c.copy_rows.ensures.items ∙ same) in
    record { same = refl; inside = refl; value = value; items = items }

pub returns-in-None : goal.returns-in-None
returns-in-None c =
    let n = length c.args.rows.now in
    let bs = c.args.self.now.bytes.now in
    let x = names_of c.args.of.now in
    let is = record_missing (first_of is_record_of x (records (pairs_in bs))) (ap (option_map rows_behind) c.in-None.ensures.value ∙ record_sought x (pairs_in bs)) in
    let same = ap (λ (ys : List Row). filled c.blank-in-None.result (length ys) []) c.in_ok-check_room.ensures.items in
    let (value, items) = tells_fault row_names blank n ((shelf_meaning bs).requirements x) missing_here c.blank-in-None.result _ c.refuse.new.items
    (leb-true 64 n (sym c.in_ok-check_room.ensures.long)) is c.blank-in-None.ensures c.refuse.ensures.value (c.refuse.ensures.items ∙ same) in
    record { same = refl; inside = refl; value = value; items = items }
