-- One place more. Assumes nothing.
use Rattle.std.proofs.Common.{◌+◌, cond, List, sym, subst}
use Rattle.rules.specs.Names.{ModuleVersion}
use Rattle.modules.specs.Rows.{row_names}
use Rattle.walks.specs.declared.place.Place.{Place}
use Rattle.modules.specs.Tables.{requirement_names}
use Rattle.lowers.specs.Learned.{is_marked}
use Rattle.lowers.proofs.Keeping.{with_first, Keeping, keeping_more}
use Rattle.lowers.proofs.keep.keep_rows.Goals as goal

pub loop-i-preserved : goal.loop-i-preserved
loop-i-preserved c =
    let mark = is_marked c.args.learned.now in
    let ps = c.args.offers.now in
    let i = c.loop-i.i in
    let t = requirement_names c.loop-i.rows in
    subst (λ (u : List ModuleVersion). Keeping mark ps (i + 1) u)
    (sym c.keep_place.ensures.after)
    (subst (λ (r : Place). Keeping mark ps (i + 1) (cond (mark (i + 1)) t (with_first (row_names r.row) t))) (sym c.index-offers-i.is)
    (keeping_more mark ps i t c.loop-i.invariant c.index-offers-i.result c.loop-i-test.true))
