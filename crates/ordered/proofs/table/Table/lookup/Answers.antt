-- What stands at the place of the key is what the look-up gives. Assumes nothing.
use Rattle.std.proofs.Common.{get_or, Some, ap, ◌∙◌}
use Rattle.std.specs.Result.{result_ok}
use Rattle.ordered.proofs.Found.{found_looked, missed_looked}
use Rattle.ordered.specs.Held.{held}
use Rattle.ordered.proofs.table.Table.lookup.Goals as goal

pub returns-in_err-i-clause-value : goal.returns-in_err-i-clause-value
returns-in_err-i-clause-value g c =
    rw c.from_residual.ensures (missed_looked g.T.Keyed.keyed g.K.Ordered.order c.args.key.now (held c.args.self.now) (c.in_err-i.ensures.value ∙ ap result_ok c.place.ensures.value))

pub returns-clause-value : goal.returns-clause-value
returns-clause-value g c =
    let i = c.in_ok-i.i in
    let x = c.index-as_slice-i.result in
    ap Some (c.index-as_slice-i.is ∙ ap (λ xs. get_or xs i x) c.as_slice.ensures.value)
    ∙ found_looked g.T.Keyed.keyed g.K.Ordered.order c.args.key.now (held c.args.self.now) i (c.in_ok-i.ensures.value ∙ ap result_ok c.place.ensures.value) x
