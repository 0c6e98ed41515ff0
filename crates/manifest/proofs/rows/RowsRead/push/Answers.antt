-- There is room for one row more. Assumes nothing.
use Rattle.std.proofs.Common.{arith}
use Rattle.manifest.proofs.Held.{one_more, holds_more}
use Rattle.manifest.proofs.rows.RowsRead.push.Goals as goal

pub invariant_of-self : goal.invariant_of-self
invariant_of-self c =
    let self = c.args.self.now in
    let h = self.holds in
    record { holds = holds_more self.most self.count self.rows.now h c.args.row (omega (arith, h.within, c.if-self.false)) }

pub returns-clause-value : goal.returns-clause-value
returns-clause-value c =
    let self = c.args.self.now in
    let h = self.holds in
    one_more self.most self.count self.rows.now h c.args.row (omega (arith, h.within, c.if-self.false))
