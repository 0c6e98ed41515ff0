-- One way for each answer. Assumes nothing.
use Rattle.std.proofs.Common.{◌≤◌, not, List, [], length, take, filter, sym, refl, ap, ◌∙◌, arith, leb-true, leb-false}
use Rattle.rules.specs.Names.{has}
use Rattle.rules.specs.Sources.{found, fault, missing_here, excluding}
use Rattle.rules.specs.Questions.{too_short}
use Rattle.rules.specs.Slices.{blank, filled}
use Rattle.modules.specs.Rows.{row_names, names_of}
use Rattle.modules.specs.Tables.{exclusion_names}
use Rattle.modules.specs.declared.rows.Row.{Row}
use Rattle.source.specs.Answers.{answer_of}
use Rattle.source.proofs.Telling.{tells_short, tells_fault, tells_found, found_told}
use Rattle.layers.proofs.Layered.{excluded_missing, excluded_found, found_below}
use Rattle.layers.proofs.exclude.ExcludeSource.requirements.Goals as goal

pub returns-in_err-check_room-clause-items : goal.returns-in_err-check_room-clause-items
returns-in_err-check_room-clause-items g c =
    let n = length c.args.rows.now in
    (tells_short row_names blank n _ c.blank.result (fault too_short) _ (leb-false 64 n (sym c.in_err-check_room.ensures.long)) c.blank.ensures refl c.in_err-check_room.ensures.items).1

pub returns-then-is_excluded : goal.returns-then-is_excluded
returns-then-is_excluded g c =
    let s = c.args.self.now in
    let es = exclusion_names s.exclusions in
    let x = names_of c.args.of.now in
    let n = length c.args.rows.now in
    let h = sym (c.if-is_excluded.ensures.value ∙ ap (λ r. has es (row_names r)) c.row.ensures) in
    let same = ap (λ (ys : List Row). filled c.blank-then-is_excluded.result (length ys) []) c.in_ok-check_room.ensures.items in
    let (value, items) = tells_fault row_names blank n _ missing_here c.blank-then-is_excluded.result _ c.refuse.new.items (leb-true 64 n (sym c.in_ok-check_room.ensures.long))
    (excluded_missing es (g.S.Source.meaning s.below) x h) c.blank-then-is_excluded.ensures c.refuse.ensures.value (c.refuse.ensures.items ∙ same) in
    record { same = refl; inside = refl; value = value; items = items; below = refl; table = refl }

pub returns-clause-value : goal.returns-clause-value
returns-clause-value g c =
    let s = c.args.self.now in
    let es = exclusion_names s.exclusions in
    let m = g.S.Source.meaning s.below in
    let x = names_of c.args.of.now in
    let n = length c.args.rows.now in
    let long : 64 ≤ n = leb-true 64 n (sym c.in_ok-check_room.ensures.long) in
    let lent = ap length c.in_ok-check_room.ensures.items in
    let rows = take c.in_ok-found.found.count c.requirements.new.rows in
    let kept = filter (λ r. not (has es (row_names r))) rows in
    let h = sym (c.if-is_excluded.ensures.value ∙ ap (λ r. has es (row_names r)) c.row.ensures) in
    let on = found_below c.requirements.result c.map_err.result _ c.map_err.ensures.cases c.in_ok-found.found c.in_ok-found.was in
    let below = found_told row_names blank (length c.check_room.new.items) c.in_ok-found.found.count (m.requirements x) c.requirements.new.rows (omega (arith, long, lent))
    (ap answer_of (sym on) ∙ c.requirements.ensures.value, c.requirements.ensures.items) in
    (tells_found row_names blank n ((excluding es m).requirements x) kept c.blank-2.result (found c.keep-count.result) c.keep-count.new.items long
    (excluded_found es m x rows h below) c.blank-2.ensures (ap found c.keep-count.ensures.value)
    (c.keep-count.ensures.items ∙ ap (λ k. filled c.blank-2.result k kept) (c.requirements.auto.rows ∙ lent))).0

pub returns-clause-items : goal.returns-clause-items
returns-clause-items g c =
    let s = c.args.self.now in
    let es = exclusion_names s.exclusions in
    let m = g.S.Source.meaning s.below in
    let x = names_of c.args.of.now in
    let n = length c.args.rows.now in
    let long : 64 ≤ n = leb-true 64 n (sym c.in_ok-check_room.ensures.long) in
    let lent = ap length c.in_ok-check_room.ensures.items in
    let rows = take c.in_ok-found.found.count c.requirements.new.rows in
    let kept = filter (λ r. not (has es (row_names r))) rows in
    let h = sym (c.if-is_excluded.ensures.value ∙ ap (λ r. has es (row_names r)) c.row.ensures) in
    let on = found_below c.requirements.result c.map_err.result _ c.map_err.ensures.cases c.in_ok-found.found c.in_ok-found.was in
    let below = found_told row_names blank (length c.check_room.new.items) c.in_ok-found.found.count (m.requirements x) c.requirements.new.rows (omega (arith, long, lent))
    (ap answer_of (sym on) ∙ c.requirements.ensures.value, c.requirements.ensures.items) in
    (tells_found row_names blank n ((excluding es m).requirements x) kept c.blank-2.result (found c.keep-count.result) c.keep-count.new.items long
    (excluded_found es m x rows h below) c.blank-2.ensures (ap found c.keep-count.ensures.value)
    (c.keep-count.ensures.items ∙ ap (λ k. filled c.blank-2.result k kept) (c.requirements.auto.rows ∙ lent))).1
