-- The edge in hand brings a mark, or it does not. Assumes nothing.
use Rattle.std.proofs.Common.{◌+◌, ◌<◌, Bool, length, get_or, sym, subst, arith}
use Rattle.std.proofs.lemmas.List.{get_or_default}
use Rattle.lowers.specs.declared.learned.Edge.{Edge}
use Rattle.lowers.proofs.Spreading.{Passing, passing_none, read_member, passing_marks, passing_on}
use Rattle.lowers.proofs.learned.spread.spread_over.Goals as goal
use Rattle.lowers.proofs.learned.spread.spread_over.Goals.{then-spread_along, else-spread_along}

pub loop-edge-init : goal.loop-edge-init
loop-edge-init c = passing_none c.args.edges.now c.args.marked.now

pub spread_along-requires : goal.spread_along-requires
spread_along-requires c =
    let es = c.args.edges.now in
    let i = c.loop-edge.edge-index in
    let d : Edge = record { from = 0; to = 0 } in
    let e : Edge = get_or es i d in
    let (from, to) = c.requires.1 e (read_member es i e c.loop-edge-test.true (get_or_default es i d e c.loop-edge-test.true)) in
    let from_there : e.from < length c.loop-edge.marked = omega (arith, from, c.requires.0, c.loop-edge.auto.marked) in
    let to_there : e.to < length c.loop-edge.marked = omega (arith, to, c.requires.0, c.loop-edge.auto.marked) in
    (from_there, to_there)

pub loop-edge-preserved : goal.loop-edge-preserved
loop-edge-preserved c =
    let es = c.args.edges.now in
    let m = c.args.marked.now in
    let i = c.loop-edge.edge-index in
    let n = c.loop-edge.marked in
    let d : Edge = record { from = 0; to = 0 } in
    let e : Edge = get_or es i d in
    let read = get_or_default es i d e c.loop-edge-test.true in
    let (from, to) = c.requires.1 e (read_member es i e c.loop-edge-test.true read) in
    let fits : e.from < length n = omega (arith, from, c.requires.0, c.loop-edge.auto.marked) in
    let o = c.spread_along.new.marked in
    elim c.if-spread_along.branch [
      | then-spread_along w ↦ subst (λ (b : Bool). Passing es m (i + 1) b o) (sym w.more-is)
          (passing_marks es m i c.loop-edge.more n c.loop-edge.invariant c.loop-edge-test.true e read o fits w.if-spread_along.ensures.value w.if-spread_along.ensures.marks)
      | else-spread_along w ↦ subst (λ (b : Bool). Passing es m (i + 1) b o) (sym w.more-is)
          (passing_on es m i c.loop-edge.more n c.loop-edge.invariant c.loop-edge-test.true e read o w.if-spread_along.ensures.value w.if-spread_along.ensures.marks)
    ]
