-- The question of the path brings a listing or a fault. Assumes nothing.
use Rattle.std.proofs.Common.{rules, ◌≡◌, ◌≤◌, length, replicate, Err, sym, ap, ◌∙◌, arith}
use lib.ListN.{length-replicate}
use Rattle.std.proofs.lemmas.Result.{err_from_is_err_and}
use Rattle.rules.specs.Orders.{Bytes}
use Rattle.rules.specs.Slices.{blank_version}
use Rattle.rules.specs.Walks.{ended, done}
use Rattle.rules.specs.Lowers.{offer_written}
use Rattle.rules.specs.Calls.{refusal_at}
use Rattle.causes.specs.Told.{refusal_of}
use Rattle.names.specs.Paths.{path_bytes}
use Rattle.versions.specs.Values.{plain_version_bytes}
use Rattle.modules.specs.Rows.{row_names}
use Rattle.source.specs.Answers.{answer_of, fault_of}
use Rattle.source.proofs.Telling.{found_told, fault_told}
use Rattle.walks.specs.Sheets.{sheet_of}
use Rattle.walks.proofs.Fillings.{sheet_short}
use Rattle.walks.proofs.Telling.{ends_by}
use Rattle.walks.proofs.Walking.{ends_fault, was_ok, was_err}
use Rattle.lowers.proofs.offers.write_offer.Goals as goal

pub returns-in_err-found-clause-value : goal.returns-in_err-found-clause-value
returns-in_err-found-clause-value g c =
    let s = sheet_of c.args.sheet.now in
    let m = g.S.Source.meaning c.args.source.now in
    let k = row_names c.args.ceiling.now in
    let p = path_bytes c.checked_path-of.result in
    let all : 64 ≤ length (replicate 64 c.blank-versions.result) = omega (arith, length-replicate 64 c.blank-versions.result) in
    let (fault, is, brought) = was_err _ c.versions.result c.map_err.result c.map_err.ensures.cases c.in_err-found.field-0.0 c.in_err-found.was in
    let refused : refusal_of c.in_err-found.field-0.0 ≡ refusal_at 0 (fault_of fault) = search rules in
    let told = ap answer_of (sym is) ∙ c.versions.ensures.value in
    let a = fault_told plain_version_bytes blank_version (length (replicate 64 c.blank-versions.result)) (fault_of fault) (m.listing p) c.versions.new.versions all (told, c.versions.ensures.items) in
    let q = err_from_is_err_and c.from_residual.result c.from_residual.ensures.1 in
    rw (q.1, q.2) (ends_by _ _ (Err c.in_err-found.field-0.0) s
    (ap (λ (b : Bytes). offer_written (ended done) k s (m.listing b)) (sym c.checked_path-of.ensures.value) ∙ ap (offer_written (ended done) k s) a)
    (ends_fault 0 (fault_of fault) c.in_err-found.field-0.0 s (sheet_short c.args.sheet.now) refused))

pub returns-clause-value : goal.returns-clause-value
returns-clause-value g c =
    let s = sheet_of c.args.sheet.now in
    let m = g.S.Source.meaning c.args.source.now in
    let k = row_names c.args.ceiling.now in
    let p = path_bytes c.checked_path-of.result in
    let all : 64 ≤ length (replicate 64 c.blank-versions.result) = omega (arith, length-replicate 64 c.blank-versions.result) in
    let told = ap answer_of (sym (was_ok _ c.versions.result c.map_err.result c.map_err.ensures.cases c.in_ok-found.found c.in_ok-found.was)) ∙ c.versions.ensures.value in
    let a = found_told plain_version_bytes blank_version (length (replicate 64 c.blank-versions.result)) c.in_ok-found.found.count (m.listing p) c.versions.new.versions all (told, c.versions.ensures.items) in
    ends_by _ _ c.write_versions.result (sheet_of c.write_versions.new.sheet)
    (ap (λ (b : Bytes). offer_written (ended done) k s (m.listing b)) (sym c.checked_path-of.ensures.value) ∙ ap (offer_written (ended done) k s) a ∙ search rules) c.write_versions.ensures.value
