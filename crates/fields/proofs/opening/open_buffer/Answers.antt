-- One way for each answer: too long, cut, refused, one field more, and the end. Assumes nothing.
use Rattle.std.proofs.Common.{of_calls, ◌≡◌, ◌-◌, length, None, Err, Result, sym, ap, ◌∙◌, arith, true-eqb, false-eqb}
use Rattle.std.specs.Option.{option_map, ok_or}
use Rattle.std.specs.Result.{result_ok}
use Rattle.std.proofs.lemmas.Result.{err_from_is_err_and}
use Rattle.causes.specs.Told.{refusal_of}
use Rattle.causes.specs.declared.refusal.Refusal.{Refusal}
use Rattle.fields.specs.Fields.{field_of}
use Rattle.fields.specs.Views.{cut_of, opening_of}
use Rattle.fields.proofs.Pieces.{field_size}
use Rattle.fields.proofs.Openings.{at_torn, ends_well, ends_early, refused, one_more, opened_within, opened_long, went_on, stopped}
use Rattle.fields.proofs.opening.open_buffer.Goals as goal

same_err : {A : Type 0} {a b : Refusal} → ◌≡◌ {A = Result A Refusal} (Err a) (Err b) → a ≡ b
same_err e = cc

pub returns-then-bytes-gt-LONGEST : goal.returns-then-bytes-gt-LONGEST
returns-then-bytes-gt-LONGEST g c = record { value = ap Err c.at.ensures.value ∙ sym (opened_long _ _ _ _ (omega arith)) }

pub loop-rest-init : goal.loop-rest-init
loop-rest-init g c = (omega arith, opened_within _ _ _ _ (omega arith))

pub returns-in_err-field : goal.returns-in_err-field
returns-in_err-field g c =
    let p = err_from_is_err_and c.from_residual.result c.from_residual.ensures.1 in
    let none = c.ok_or.ensures.ok_part ∙ ap result_ok c.in_err-field.was in
    let torn : None ≡ field_of c.loop-rest.rest.now = sym (ap (option_map cut_of) none) ∙ c.first_field.ensures.value in
    let d = sym c.in_err-field.was ∙ c.ok_or.ensures.value ∙ ap (λ o. ok_or o c.at-in-loop-rest.result) none in
    record {
      value = ap opening_of p.1 ∙ ap (λ r. Err (refusal_of r)) p.2 ∙ ap (λ r. Err (refusal_of r)) (same_err d) ∙ ap Err c.at-in-loop-rest.ensures.value
          ∙ sym (c.loop-rest.invariant.1 ∙ at_torn _ _ _ _ _ (omega (arith, false-eqb _ 0 c.loop-rest-test.ensures)) torn);
    }

pub returns-in_err-next : goal.returns-in_err-next
returns-in_err-next g c =
    let p = err_from_is_err_and c.from_residual-in_err-next.result c.from_residual-in_err-next.ensures.1 in
    let is = sym (ap (option_map cut_of) (c.ok_or.ensures.ok_part ∙ ap result_ok c.in_ok-field.was)) ∙ c.first_field.ensures.value in
    let s = stopped (length c.args.bytes.now - length c.loop-rest.rest.now) c.behind.result c.map_err.result _ (λ k d q. search of_calls) c.map_err.ensures.cases c.in_err-next.field-0.0 c.in_err-next.was in
    record {
      value = ap opening_of p.1 ∙ ap (λ r. Err (refusal_of r)) p.2 ∙ ap Err s.2
          ∙ sym (c.loop-rest.invariant.1 ∙ refused _ _ _ _ _ _ is _ (s.1 ∙ c.behind.ensures.value));
    }

pub loop-rest-preserved : goal.loop-rest-preserved
loop-rest-preserved g c =
    let is = sym (ap (option_map cut_of) (c.ok_or.ensures.ok_part ∙ ap result_ok c.in_ok-field.was)) ∙ c.first_field.ensures.value in
    let size = field_size c.loop-rest.rest.now (cut_of c.in_ok-field.field) is in
    let on = went_on (length c.args.bytes.now - length c.loop-rest.rest.now) c.behind.result c.map_err.result _ (λ k d q. search of_calls) c.map_err.ensures.cases c.in_ok-next.next c.in_ok-next.was in (
      omega (arith, c.loop-rest.invariant.0),
      c.loop-rest.invariant.1 ∙ one_more _ _ _ _ _ _ is _ c.loop-rest.invariant.0 (on ∙ c.behind.ensures.value),
    )

pub returns-then-may_end : goal.returns-then-may_end
returns-then-may_end g c =
    record { value = sym (c.loop-rest.invariant.1 ∙ ends_well _ _ _ _ _ (true-eqb _ 0 c.loop-rest-test.ensures) (sym c.if-may_end.ensures.value)) }

pub returns-else-may_end : goal.returns-else-may_end
returns-else-may_end g c =
    record {
      value = ap Err c.at-else-may_end.ensures.value ∙ sym (c.loop-rest.invariant.1 ∙ ends_early _ _ _ _ _ (true-eqb _ 0 c.loop-rest-test.ensures) (sym c.if-may_end.ensures.value));
    }
