-- The question brings a list or a fault. Assumes nothing.
use Rattle.std.proofs.Common.{rules, ◌≡◌, ◌≤◌, length, replicate, Err, sym, ap, ◌∙◌, arith}
use lib.ListN.{length-replicate}
use Rattle.std.proofs.lemmas.Result.{err_from_is_err_and}
use Rattle.rules.specs.Sources.{narrowed}
use Rattle.rules.specs.Slices.{blank}
use Rattle.rules.specs.Projects.{off_main, remaining}
use Rattle.rules.specs.Walks.{answered, ended, done}
use Rattle.rules.specs.Calls.{refusal_at}
use Rattle.causes.specs.Told.{refusal_of}
use Rattle.names.specs.Paths.{path_bytes}
use Rattle.modules.specs.Rows.{row_names, names_of}
use Rattle.source.specs.Answers.{answer_of, fault_of}
use Rattle.source.proofs.Telling.{found_told, fault_told}
use Rattle.walks.specs.Sheets.{sheet_of}
use Rattle.walks.specs.Views.{seen_by}
use Rattle.walks.proofs.Fillings.{sheet_short}
use Rattle.walks.proofs.Telling.{ends_by}
use Rattle.walks.proofs.Walking.{formed_there, given_there, was_ok, was_err, asked_of, ends_fault}
use Rattle.walks.proofs.walk.question.Goals as goal

pub unwrap-of-requires : goal.unwrap-of-requires
unwrap-of-requires g c = formed_there (sheet_of c.args.sheet.now) c.args.at c.requires.place.0 c.requires.place.1 c.requires.formed c.module_version.result c.module_version.ensures.value

pub returns-in_err-found-clause-value : goal.returns-in_err-found-clause-value
returns-in_err-found-clause-value g c =
    let m = g.S.Source.meaning c.args.source.now in
    let main = path_bytes c.args.main.now in
    let s = sheet_of c.args.sheet.now in
    let x = names_of c.unwrap-of.result in
    let there = given_there s c.args.at c.module_version.result c.unwrap-of.result c.module_version.ensures.value c.unwrap-of.ensures in
    let all : 64 ≤ length (replicate 64 c.blank-rows.result) = omega (arith, length-replicate 64 c.blank-rows.result) in
    let (fault, is, brought) = was_err _ c.requirements.result c.map_err.result c.map_err.ensures.cases c.in_err-found.field-0.0 c.in_err-found.was in
    let refused : refusal_of c.in_err-found.field-0.0 ≡ refusal_at c.args.at (fault_of fault) = search rules in
    let told = ap answer_of (sym is) ∙ c.requirements.ensures.value in
    let a = fault_told row_names blank (length (replicate 64 c.blank-rows.result)) (fault_of fault) (m.requirements x) c.requirements.new.rows all (told, c.requirements.ensures.items) in
    let p = err_from_is_err_and c.from_residual.result c.from_residual.ensures.1 in
    rw (p.1, p.2) (ends_by _ _ (Err c.in_err-found.field-0.0) s
    (asked_of (remaining (seen_by main m)) (ended done) c.args.at s x there ∙ ap (λ b. answered (ended done) c.args.at s (narrowed (off_main main) b)) a)
    (ends_fault c.args.at (fault_of fault) c.in_err-found.field-0.0 s (sheet_short c.args.sheet.now) refused))

pub returns-clause-value : goal.returns-clause-value
returns-clause-value g c =
    let m = g.S.Source.meaning c.args.source.now in
    let main = path_bytes c.args.main.now in
    let s = sheet_of c.args.sheet.now in
    let x = names_of c.unwrap-of.result in
    let there = given_there s c.args.at c.module_version.result c.unwrap-of.result c.module_version.ensures.value c.unwrap-of.ensures in
    let all : 64 ≤ length (replicate 64 c.blank-rows.result) = omega (arith, length-replicate 64 c.blank-rows.result) in
    let told = ap answer_of (sym (was_ok _ c.requirements.result c.map_err.result c.map_err.ensures.cases c.in_ok-found.found c.in_ok-found.was)) ∙ c.requirements.ensures.value in
    let a = found_told row_names blank (length (replicate 64 c.blank-rows.result)) c.in_ok-found.found.count (m.requirements x) c.requirements.new.rows all (told, c.requirements.ensures.items) in
    ends_by _ _ c.write_all.result (sheet_of c.write_all.new.self)
    (asked_of (remaining (seen_by main m)) (ended done) c.args.at s x there ∙ ap (λ b. answered (ended done) c.args.at s (narrowed (off_main main) b)) a)
    c.write_all.ensures.value
