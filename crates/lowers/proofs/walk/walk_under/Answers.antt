-- A place that is known, one that stops the walk, and the end. Assumes nothing.
use Rattle.std.proofs.Common.{◌≡◌, ℕ, ◌+◌, ◌<◌, ◌≤◌, length, Ok, Err, sym, ◌∙◌, subst, arith}
use Rattle.std.specs.List.{slice_get}
use Rattle.std.proofs.lemmas.List.{length-map}
use Rattle.std.proofs.lemmas.Result.{err_from_is_err_and}
use Rattle.rules.specs.Sources.{Meaning}
use Rattle.rules.specs.Walks.{questioned, ended, done}
use Rattle.rules.specs.Lowers.{lower_ask}
use Rattle.names.specs.Paths.{path_bytes}
use Rattle.walks.specs.Fillings.{items_of}
use Rattle.walks.specs.Places.{place_of}
use Rattle.walks.specs.Sheets.{sheet_of}
use Rattle.walks.specs.Views.{seen_by}
use Rattle.walks.proofs.Fillings.{sheet_short}
use Rattle.walks.proofs.Telling.{ends_by}
use Rattle.walks.proofs.Walking.{goes_further, stops_there, walks_out}
use Rattle.lowers.specs.Ceilings.{ceiling_rows}
use Rattle.lowers.specs.Learned.{Knows}
use Rattle.lowers.proofs.Offering.{told_at}
use Rattle.lowers.proofs.Asking.{asks_formed}
use Rattle.lowers.proofs.walk.walk_under.Goals as goal

pub loop-at-preserved : goal.loop-at-preserved
loop-at-preserved g c =
    let (one, low, formed, named, same, inside, knows, walks) = c.loop-at.invariant in
    let i = c.loop-at.at in
    let main = path_bytes c.args.main.now in
    let m = g.S.Source.meaning c.args.source.now in
    let cs = ceiling_rows c.args.ceilings.now in
    let s = sheet_of c.loop-at.sheet in
    let left = sheet_of c.question_under.new.sheet in
    let in_sheet : i < length s = omega (arith, c.len.ensures.value, c.loop-at-test.true, length-map (items_of c.loop-at.sheet) place_of) in
    let room : i < 256 = omega (arith, sheet_short c.loop-at.sheet) in
    let t = told_at (λ (q : Meaning). questioned (lower_ask (seen_by main q) cs) (ended done) i s (slice_get s i)) _ _ same (Ok tt) left c.in_ok-question_under.ensures.value in
    let (grown, next, turned) = goes_further (lower_ask (seen_by main m) cs) i s in_sheet room left (asks_formed (seen_by main m) cs (g.S.Source.lawful c.args.source.now)) formed t in
    let known = subst (λ (q : Meaning). Knows (seen_by main q) cs left c.question_under.new.learned (i + 1)) same c.in_ok-question_under.ensures.learned in
    (omega arith, omega arith, next, c.question_under.ensures.same_reference ∙ named, c.in_ok-question_under.ensures.same ∙ same, c.in_ok-question_under.ensures.inside ∙ inside, known, turned ∙ walks)

pub returns-in_err-question_under-clause-value : goal.returns-in_err-question_under-clause-value
returns-in_err-question_under-clause-value g c =
    let (one, low, formed, named, same, inside, knows, walks) = c.loop-at.invariant in
    let i = c.loop-at.at in
    let main = path_bytes c.args.main.now in
    let m = g.S.Source.meaning c.args.source.now in
    let cs = ceiling_rows c.args.ceilings.now in
    let s = sheet_of c.loop-at.sheet in
    let left = sheet_of c.question_under.new.sheet in
    let refusal = c.in_err-question_under.field-0.0 in
    let in_sheet : i < length s = omega (arith, c.len.ensures.value, c.loop-at-test.true, length-map (items_of c.loop-at.sheet) place_of) in
    let room : i < 256 = omega (arith, sheet_short c.loop-at.sheet) in
    let t = told_at (λ (q : Meaning). questioned (lower_ask (seen_by main q) cs) (ended done) i s (slice_get s i)) _ _ same (Err refusal) left c.in_err-question_under.ensures.value in
    let p = err_from_is_err_and c.from_residual.result c.from_residual.ensures.1 in
    rw (p.1, p.2) (ends_by _ _ (Err refusal) left (sym walks) (stops_there (lower_ask (seen_by main m) cs) i s in_sheet room left refusal t))

pub returns-clause-value : goal.returns-clause-value
returns-clause-value g c =
    let (one, low, formed, named, same, inside, knows, walks) = c.loop-at.invariant in
    let w = seen_by (path_bytes c.args.main.now) (g.S.Source.meaning c.args.source.now) in
    let s = sheet_of c.loop-at.sheet in
    let out : length s ≤ c.loop-at.at = omega (arith, c.len.ensures.value, c.loop-at-test.false, length-map (items_of c.loop-at.sheet) place_of) in
    ends_by _ _ (Ok tt) s (sym walks) (walks_out (lower_ask w (ceiling_rows c.args.ceilings.now)) c.loop-at.at s out (sheet_short c.loop-at.sheet))

pub returns-clause-learned : goal.returns-clause-learned
returns-clause-learned g c =
    let (one, low, formed, named, same, inside, knows, walks) = c.loop-at.invariant in
    let w = seen_by (path_bytes c.args.main.now) (g.S.Source.meaning c.args.source.now) in
    let s = sheet_of c.loop-at.sheet in
    let out : c.loop-at.at ≡ length s = omega (arith, low, c.len.ensures.value, c.loop-at-test.false, length-map (items_of c.loop-at.sheet) place_of) in
    subst (λ (k : ℕ). Knows w (ceiling_rows c.args.ceilings.now) s c.loop-at.learned k) out knows
