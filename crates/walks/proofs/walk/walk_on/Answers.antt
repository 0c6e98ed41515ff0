-- A place that brings a list, one that stops the walk, and the end. Assumes nothing.
use Rattle.std.proofs.Common.{◌<◌, ◌≤◌, length, Ok, Err, sym, ◌∙◌, subst, arith}
use Rattle.std.proofs.lemmas.Result.{err_from_is_err_and}
use Rattle.std.proofs.lemmas.List.{length-map}
use Rattle.rules.specs.Sources.{Meaning}
use Rattle.rules.specs.Projects.{remaining}
use Rattle.names.specs.Paths.{path_bytes}
use Rattle.walks.specs.Fillings.{items_of}
use Rattle.walks.specs.Places.{place_of}
use Rattle.walks.specs.Sheets.{sheet_of, EndsAs}
use Rattle.walks.specs.Views.{seen_by, asked_at}
use Rattle.walks.proofs.Fillings.{sheet_short}
use Rattle.walks.proofs.Telling.{ends_by}
use Rattle.walks.proofs.Walking.{required_formed, goes_further, stops_there, walks_out}
use Rattle.walks.proofs.walk.walk_on.Goals as goal

pub loop-at-preserved : goal.loop-at-preserved
loop-at-preserved g c =
    let (one, low, formed, named, same, inside, walks) = c.loop-at.invariant in
    let i = c.loop-at.at in
    let main = path_bytes c.args.main.now in
    let m = g.S.Source.meaning c.args.source.now in
    let s = sheet_of c.loop-at.sheet in
    let left = sheet_of c.question.new.sheet in
    let in_sheet : i < length s = omega (arith, c.len.ensures.value, c.loop-at-test.true, length-map (items_of c.loop-at.sheet) place_of) in
    let room : i < 256 = omega (arith, sheet_short c.loop-at.sheet) in
    let t : EndsAs {A = Unit {0}} (asked_at (seen_by main m) i s) (Ok tt) left = subst (λ (q : Meaning). EndsAs {A = Unit {0}} (asked_at (seen_by main q) i s) (Ok tt) left) same c.in_ok-question.ensures.value in
    let (grown, next, turned) = goes_further (remaining (seen_by main m)) i s in_sheet room left (required_formed (seen_by main m) (g.S.Source.lawful c.args.source.now)) formed t in
    (omega arith, omega arith, next, c.question.ensures.same_reference ∙ named, c.in_ok-question.ensures.same ∙ same, c.in_ok-question.ensures.inside ∙ inside, turned ∙ walks)

pub returns-in_err-question-clause-value : goal.returns-in_err-question-clause-value
returns-in_err-question-clause-value g c =
    let (one, low, formed, named, same, inside, walks) = c.loop-at.invariant in
    let i = c.loop-at.at in
    let main = path_bytes c.args.main.now in
    let m = g.S.Source.meaning c.args.source.now in
    let s = sheet_of c.loop-at.sheet in
    let left = sheet_of c.question.new.sheet in
    let refusal = c.in_err-question.field-0.0 in
    let in_sheet : i < length s = omega (arith, c.len.ensures.value, c.loop-at-test.true, length-map (items_of c.loop-at.sheet) place_of) in
    let room : i < 256 = omega (arith, sheet_short c.loop-at.sheet) in
    let t : EndsAs {A = Unit {0}} (asked_at (seen_by main m) i s) (Err refusal) left = subst (λ (q : Meaning). EndsAs {A = Unit {0}} (asked_at (seen_by main q) i s) (Err refusal) left) same c.in_err-question.ensures.value in
    let p = err_from_is_err_and c.from_residual.result c.from_residual.ensures.1 in
    rw (p.1, p.2) (ends_by _ _ (Err refusal) left (sym walks) (stops_there (remaining (seen_by main m)) i s in_sheet room left refusal t))

pub returns-clause-value : goal.returns-clause-value
returns-clause-value g c =
    let (one, low, formed, named, same, inside, walks) = c.loop-at.invariant in
    let i = c.loop-at.at in
    let m = g.S.Source.meaning c.args.source.now in
    let s = sheet_of c.loop-at.sheet in
    let out : length s ≤ i = omega (arith, c.len.ensures.value, c.loop-at-test.false, length-map (items_of c.loop-at.sheet) place_of) in
    ends_by _ _ (Ok tt) s (sym walks) (walks_out (remaining (seen_by (path_bytes c.args.main.now) m)) i s out (sheet_short c.loop-at.sheet))
