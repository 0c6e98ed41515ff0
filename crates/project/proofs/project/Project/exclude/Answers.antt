-- What the layer answers is what the rules say, and the main module stays. Assumes nothing.
use Rattle.std.proofs.Common.{rules, ◌≡◌, List, Ok, Err, Result, MatchResult, ap, ◌∙◌}
use Rattle.std.specs.Result.{IsErrAnd}
use Rattle.std.proofs.lemmas.Result.{err_from_is_err_and}
use Rattle.rules.specs.Calls.{does, refuses, refusal_for}
use Rattle.rules.specs.Names.{ModuleVersion}
use Rattle.rules.specs.Projects.{State, with_exclusions}
use Rattle.rules.specs.Rows.{with_exclusion}
use Rattle.causes.specs.Told.{cause_of, refusal_of}
use Rattle.causes.specs.declared.cause.Cause as C
use Rattle.causes.specs.declared.refusal.Refusal.{Refusal}
use Rattle.modules.specs.Rows.{row_names, names_of}
use Rattle.modules.specs.Tables.{exclusion_names}
use Rattle.layers.specs.Excluded.{exclusion_told}
use Rattle.project.specs.Projects.{state_of}
use Rattle.project.specs.States.{changed}
use Rattle.project.proofs.Changing.{exclude_outcome, exclude_right}
use Rattle.project.proofs.project.Project.exclude.Goals as goal

-- the layer's answer, and the same with its cause as a refusal
same_answer : (Post : C.Cause → Refusal → Type 0) → ((k : C.Cause) (d : Refusal) → Post k d → refusal_of d ≡ refusal_for (cause_of k)) → (s : State) (es : List ModuleVersion) (r : Result (Unit {0}) C.Cause) (q : Result (Unit {0}) Refusal)
    → MatchResult r (λ u. q ≡ Ok u) (λ k. IsErrAnd q (Post k)) → changed q (with_exclusions s es) ≡ exclude_outcome s es r
same_answer Post told s es (Ok u) q m = ap (λ (t : Result (Unit {0}) Refusal). changed t (with_exclusions s es)) m
same_answer Post told s es (Err k) q m =
    let (d, is, post) = err_from_is_err_and q m in
    ap (λ (t : Result (Unit {0}) Refusal). changed t (with_exclusions s es)) is ∙ ap (refuses (with_exclusions s es)) (told k d post)

pub returns-clause-value : goal.returns-clause-value
unfolding does
returns-clause-value g c =
    let p = c.args.self.now in
    let es = exclusion_names p.layer.exclusions in
    let row : row_names c.row.result ≡ names_of c.args.of.now = ap row_names c.row.ensures in
    let h = c.exclude.ensures in
    let after = exclusion_names c.exclude.new.self.exclusions in
    same_answer _ (λ k d post. search (rules, post)) (state_of p) after c.exclude.result c.map_err.result c.map_err.ensures.cases
    ∙ exclude_right (state_of p) (names_of c.args.of.now) after c.exclude.result (h.value ∙ ap (exclusion_told es) row)
    (λ ok. h.after ok ∙ ap (λ x. with_exclusion x es) row) (λ no. ap exclusion_names (h.refused no))
