-- The item is written at the place where it would stand, unless one of its key is there or there is no room. Assumes nothing.
use Rattle.std.proofs.Common.{◌≡◌, Bool, true, false, ltb, List, length, take, None, Err, sym, ap, ◌∙◌, ap₂, arith, refl}
use Rattle.std.specs.Result.{result_ok}
use Rattle.std.specs.List.{insert}
use Rattle.std.proofs.lemmas.List.{length-take-le}
use Rattle.std.proofs.lemmas.Bool.{lt-ltb, le-ltb}
use Rattle.rules.specs.Orders.{Laws}
use Rattle.rules.specs.Tables.{keep, lookup, entered}
use Rattle.ordered.specs.Places.{sought}
use Rattle.ordered.specs.Held.{held, admitted}
use Rattle.ordered.proofs.Ascents.{entered_ascends}
use Rattle.ordered.proofs.Found.{found_looked, missed_looked, missed_put}
use Rattle.ordered.proofs.table.Table.insert.Given as given
use Rattle.ordered.proofs.table.Table.insert.Goals as goal
use Rattle.ordered.proofs.table.Table.insert.Goals.{In-Err}

laws : (g : given.Over) → Laws g.K.Ordered.order
laws g =
    let o = g.met.K.Ordered in
    record { total = o.total; antisymmetric = o.antisymmetric; transitive = o.transitive; mirrored = o.mirrored }

pub returns-in_default-clause-value : goal.returns-in_default-clause-value
returns-in_default-clause-value g c =
    let t = held c.args.self.now in
    let found = ap result_ok (c.in_default.ensures.value ∙ ap (λ k. sought g.T.Keyed.keyed g.K.Ordered.order k t) c.key.ensures) in
    ap (λ o. admitted o (ltb (length t) g.row.N)) (found_looked g.T.Keyed.keyed g.K.Ordered.order (g.T.Keyed.keyed c.args.item) t c.in_default.field-0 found c.args.item)

-- no item has the key, and the place is where it would stand
missed : (g : given.Over) (c : In-Err g) → Err c.in-Err.at ≡ sought g.T.Keyed.keyed g.K.Ordered.order (g.T.Keyed.keyed c.args.item) (held c.args.self.now)
missed g c = c.in-Err.ensures.value ∙ ap (λ k. sought g.T.Keyed.keyed g.K.Ordered.order k (held c.args.self.now)) c.key.ensures

-- the count is that of the items
long : (g : given.Over) (c : In-Err g) → length (held c.args.self.now) ≡ c.args.self.now.count
long g c = ap length (sym refl) ∙ length-take-le c.args.self.now.count c.args.self.now.items (omega arith)

-- what is answered where none has, by whether there is room
answered : (g : given.Over) (c : In-Err g) (room : Bool) → ltb c.args.self.now.count g.row.N ≡ room
    → admitted {A = g.row.T.Denot} None room ≡ admitted (lookup g.T.Keyed.keyed g.K.Ordered.order (g.T.Keyed.keyed c.args.item) (held c.args.self.now)) (ltb (length (held c.args.self.now)) g.row.N)
answered g c room e =
    ap₂ admitted (missed_looked g.T.Keyed.keyed g.K.Ordered.order (g.T.Keyed.keyed c.args.item) (held c.args.self.now) (ap result_ok (missed g c))) (sym (ap (λ n. ltb n g.row.N) (long g c) ∙ e))

pub returns-then-self-clause-value : goal.returns-then-self-clause-value
returns-then-self-clause-value g c = answered g (goal.at.returns-then-self-clause-value g c).In-Err false (le-ltb c.args.self.now.count g.row.N (omega arith))

pub returns-clause-value : goal.returns-clause-value
returns-clause-value g c = answered g (goal.at.returns-clause-value g c).In-Err true (lt-ltb c.args.self.now.count g.row.N (omega arith))

put : (g : given.Over) (c : In-Err g) (left : List g.row.T.Denot) → left ≡ insert (take c.args.self.now.count c.args.self.now.items) c.in-Err.at c.args.item → left ≡ entered g.T.Keyed.keyed g.K.Ordered.order keep c.args.item (held c.args.self.now)
put g c left is =
    is ∙ ap (λ xs. insert xs c.in-Err.at c.args.item) refl
    ∙ missed_put g.T.Keyed.keyed g.K.Ordered.order c.args.item (held c.args.self.now) c.in-Err.at (missed g c)

pub returns-clause-after : goal.returns-clause-after
returns-clause-after g c =
    let e = (goal.at.returns-clause-after g c).In-Err in
    λ _. put g e _ (c.insert_at.ensures.after (omega (arith, c.in-Err.ensures.items, long g e)) (omega arith))

pub returns-clause-ascending : goal.returns-clause-ascending
returns-clause-ascending g c =
    let e = (goal.at.returns-clause-ascending g c).In-Err in
    entered_ascends g.T.Keyed.keyed g.K.Ordered.order (laws g) (held c.args.self.now) _ keep (λ _ _ _. refl) c.args.item
    (put g e _ (c.insert_at.ensures.after (omega (arith, c.in-Err.ensures.items, long g e)) (omega arith)))
