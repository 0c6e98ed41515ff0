-- The item at the place of the key is taken out. Assumes nothing.
use Rattle.std.proofs.Common.{refl, ◌≡◌, ◌-◌, take, ap, ◌∙◌}
use Rattle.std.specs.Result.{result_ok}
use Rattle.std.specs.List.{remove}
use Rattle.rules.specs.Tables.{removed}
use Rattle.ordered.proofs.Ascents.{removed_ascends}
use Rattle.ordered.proofs.Found.{found_read, found_gone, missed_looked, missed_gone}
use Rattle.ordered.specs.Held.{held}
use Rattle.ordered.proofs.table.Table.remove.Given as given
use Rattle.ordered.proofs.table.Table.remove.Goals as goal
use Rattle.rules.specs.Orders.{Laws}

laws : (g : given.Over) → Laws g.K.Ordered.order
laws g =
    let o = g.met.K.Ordered in
    record { total = o.total; antisymmetric = o.antisymmetric; transitive = o.transitive; mirrored = o.mirrored }

pub returns-in_err-at-clause-value : goal.returns-in_err-at-clause-value
returns-in_err-at-clause-value g c =
    rw c.from_residual.ensures (missed_looked g.T.Keyed.keyed g.K.Ordered.order c.args.key.now (held c.args.self.now) (c.in_err-at.ensures.value ∙ ap result_ok c.place.ensures.value))

pub returns-in_err-at-clause-after : goal.returns-in_err-at-clause-after
returns-in_err-at-clause-after g c = missed_gone g.T.Keyed.keyed g.K.Ordered.order c.args.key.now (held c.args.self.now) (c.in_err-at.ensures.value ∙ ap result_ok c.place.ensures.value)

pub returns-clause-value : goal.returns-clause-value
returns-clause-value g c =
    found_read g.T.Keyed.keyed g.K.Ordered.order c.args.key.now (held c.args.self.now) c.in_ok-at.at (c.in_ok-at.ensures.value ∙ ap result_ok c.place.ensures.value)
    c.args.self.now.items c.args.self.now.count refl c.index-self-at.result

left : (g : given.Over) (c : goal.After-self-2-1 g) → take (c.args.self.now.count - 1) c.remove_at.new.items ≡ removed g.T.Keyed.keyed g.K.Ordered.order c.args.key.now (held c.args.self.now)
left g c =
    c.remove_at.ensures.after ∙ ap (λ zs. remove zs c.in_ok-at.at) refl
    ∙ found_gone g.T.Keyed.keyed g.K.Ordered.order c.args.key.now (held c.args.self.now) c.in_ok-at.at (c.in_ok-at.ensures.value ∙ ap result_ok c.place.ensures.value)

pub returns-clause-after : goal.returns-clause-after
returns-clause-after g c = left g c

pub returns-clause-ascending : goal.returns-clause-ascending
returns-clause-ascending g c = removed_ascends g.T.Keyed.keyed g.K.Ordered.order (laws g) (held c.args.self.now) (take (c.args.self.now.count - 1) c.remove_at.new.items) c.args.key.now (left g c)
