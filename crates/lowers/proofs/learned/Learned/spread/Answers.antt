-- Before the first pass, and after one. Assumes nothing.
use Rattle.std.proofs.Common.{List, sym, refl, ◌∙◌, subst}
use Rattle.lowers.specs.declared.learned.Edge.{Edge}
use Rattle.lowers.specs.Learned.{edges_in}
use Rattle.lowers.specs.Spreads.{Narrow, Spread, Closed}
use Rattle.lowers.proofs.Spreading.{spread_none, spread_more}
use Rattle.lowers.proofs.learned.Learned.spread.Goals as goal

pub loop-init : goal.loop-init
loop-init c = (refl, spread_none (edges_in c.args.self.now) c.args.self.now.marked)

pub spread_once-requires : goal.spread_once-requires
spread_once-requires c = subst Narrow (sym c.loop.invariant.0) c.requires

pub loop-preserved : goal.loop-preserved
loop-preserved c =
    let (same, spread) = c.loop.invariant in
    let m = c.loop.self.marked in
    let n = c.spread_once.new.self.marked in (
      c.spread_once.ensures.edges ∙ same,
      spread_more (edges_in c.args.self.now) c.args.self.now.marked m spread n (subst (λ (es : List Edge). Spread es m n) same c.spread_once.ensures.marks.spread),
    )

pub returns : goal.returns
returns c =
    let (same, spread) = c.loop.invariant in
    let m = c.loop.self.marked in
    let n = c.spread_once.new.self.marked in
    record {
      marks = record {
        spread = spread_more (edges_in c.args.self.now) c.args.self.now.marked m spread n (subst (λ (es : List Edge). Spread es m n) same c.spread_once.ensures.marks.spread);
        closed = subst (λ (es : List Edge). Closed es n) same (c.spread_once.ensures.marks.still c.loop-test.false);
      };
    }
