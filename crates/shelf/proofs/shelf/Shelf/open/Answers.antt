-- An accepted buffer is a shelf. Assumes nothing.
use Rattle.std.proofs.Common.{Err, is_ok, sym, ap, ◌∙◌}
use Rattle.std.proofs.lemmas.Result.{err_from_is_err_and}
use Rattle.causes.specs.Told.{refusal_of}
use Rattle.fields.specs.Views.{opening_of}
use Rattle.shelf.specs.Grammar.{opening}
use Rattle.shelf.proofs.shelf.Shelf.open.Goals as goal

pub returns-in_err-open_buffer-clause-value : goal.returns-in_err-open_buffer-clause-value
unfolding opening
returns-in_err-open_buffer-clause-value c =
    let p = err_from_is_err_and c.from_residual.result c.from_residual.ensures.1 in
    ap opening_of p.1 ∙ ap (λ r. Err (refusal_of r)) p.2 ∙ c.in_err-open_buffer.ensures.value

pub invariant_of-result : goal.invariant_of-result
unfolding opening
invariant_of-result c = record { ok = sym (ap is_ok c.in_ok-open_buffer.ensures.value) }
