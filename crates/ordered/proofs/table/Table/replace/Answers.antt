-- The item is written at the place of its key. Assumes nothing.
use Rattle.std.proofs.Common.{refl, ◌≡◌, Some, take, set, ap, ◌∙◌}
use Rattle.std.specs.Result.{result_ok}
use Rattle.rules.specs.Orders.{Laws}
use Rattle.rules.specs.Tables.{entered}
use Rattle.ordered.specs.Held.{held, give}
use Rattle.ordered.specs.Places.{sought}
use Rattle.ordered.proofs.Ascents.{entered_ascends}
use Rattle.ordered.proofs.Found.{found_read, found_written, missed_looked}
use Rattle.ordered.proofs.table.Table.replace.Given as given
use Rattle.ordered.proofs.table.Table.replace.Goals as goal

laws : (g : given.Over) → Laws g.K.Ordered.order
laws g =
    let o = g.met.K.Ordered in
    record { total = o.total; antisymmetric = o.antisymmetric; transitive = o.transitive; mirrored = o.mirrored }

pub returns-in_err-at-clause-value : goal.returns-in_err-at-clause-value
returns-in_err-at-clause-value g c =
    let by_key = ap (λ k. result_ok (sought g.T.Keyed.keyed g.K.Ordered.order k (held c.args.self.now))) c.key.ensures in
    rw c.from_residual.ensures (missed_looked g.T.Keyed.keyed g.K.Ordered.order (g.T.Keyed.keyed c.args.item) (held c.args.self.now) (c.in_err-at.ensures.value ∙ ap result_ok c.place.ensures.value ∙ by_key))

found : (g : given.Over) (c : goal.After-self-1 g) → Some c.in_ok-at.at ≡ result_ok (sought g.T.Keyed.keyed g.K.Ordered.order (g.T.Keyed.keyed c.args.item) (held c.args.self.now))
found g c =
    c.in_ok-at.ensures.value ∙ ap result_ok c.place.ensures.value
    ∙ ap (λ k. result_ok (sought g.T.Keyed.keyed g.K.Ordered.order k (held c.args.self.now))) c.key.ensures

pub returns-clause-value : goal.returns-clause-value
returns-clause-value g c =
    found_read g.T.Keyed.keyed g.K.Ordered.order (g.T.Keyed.keyed c.args.item) (held c.args.self.now) c.in_ok-at.at (found g c)
    c.args.self.now.items c.args.self.now.count refl c.index-self-at.result

put : (g : given.Over) (c : goal.After-self-1 g) → take c.args.self.now.count (set c.args.self.now.items c.in_ok-at.at c.args.item) ≡ entered g.T.Keyed.keyed g.K.Ordered.order give c.args.item (held c.args.self.now)
put g c =
    found_written g.T.Keyed.keyed g.K.Ordered.order c.args.item (held c.args.self.now) c.in_ok-at.at (found g c)
    c.args.self.now.items c.args.self.now.count refl

pub returns-clause-after : goal.returns-clause-after
returns-clause-after g c = λ _. put g c

pub returns-clause-ascending : goal.returns-clause-ascending
returns-clause-ascending g c = entered_ascends g.T.Keyed.keyed g.K.Ordered.order (laws g) (held c.args.self.now) _ give (λ _ _ p. p) c.args.item (put g c)
