-- Each turn enters one item, and a table that is full stays too short. Assumes nothing.
use Rattle.std.proofs.Common.{◌≡◌, sym, refl, ap, ◌∙◌}
use Rattle.rules.specs.Orders.{Laws}
use Rattle.rules.specs.Tables.{joined}
use Rattle.ordered.specs.declared.table.NotInserted.TheVariants.{Full}
use Rattle.ordered.proofs.Ascents.{joined_ascends}
use Rattle.ordered.proofs.Joining.{is_full, not_refused, joined_on, joined_over, joined_all}
use Rattle.ordered.specs.Held.{held}
use Rattle.ordered.proofs.table.Table.join.Given as given
use Rattle.ordered.proofs.table.Table.join.Goals as goal

laws : (g : given.Over) → Laws g.K.Ordered.order
laws g =
    let o = g.met.K.Ordered in
    record { total = o.total; antisymmetric = o.antisymmetric; transitive = o.transitive; mirrored = o.mirrored }

pub loop-item-preserved : goal.loop-item-preserved
loop-item-preserved g c = (
  joined_on g.T.Keyed.keyed g.K.Ordered.order (held c.args.self.now) c.args.other.now (held c.loop-item.all) c.loop-item.item-index c.loop-item.invariant.0 c.item-item.result c.loop-item-test.true c.item-item.is
      c.insert.result (held c.insert.new.self) _ c.insert.ensures.value c.insert.ensures.after (λ r. ap held (c.insert.ensures.refused r)) (not_refused _ _ Full c.insert.result c.if-eq.ensures refl),
  c.insert.ensures.fits,
)

pub returns-then-eq-clause-value : goal.returns-then-eq-clause-value
returns-then-eq-clause-value g c =
    joined_over g.T.Keyed.keyed g.K.Ordered.order (held c.args.self.now) c.args.other.now (held c.loop-item.all) c.loop-item.item-index c.loop-item.invariant.0 c.item-item.result c.loop-item-test.true c.item-item.is
    g.row.N (sym (is_full _ _ c.insert.result c.if-eq.ensures refl) ∙ c.insert.ensures.value)

whole : (g : given.Over) (c : goal.After-loop-item g) → held c.loop-item.all ≡ joined g.T.Keyed.keyed g.K.Ordered.order (held c.args.self.now) c.args.other.now
whole g c = joined_all g.T.Keyed.keyed g.K.Ordered.order (held c.args.self.now) c.args.other.now (held c.loop-item.all) c.loop-item.item-index c.loop-item.invariant.0 c.loop-item-test.false

pub returns-clause-ascending : goal.returns-clause-ascending
returns-clause-ascending g c = joined_ascends g.T.Keyed.keyed g.K.Ordered.order (laws g) (held c.args.self.now) (held c.loop-item.all) c.args.other.now (whole g c)
