use Rattle.std.proofs.Common.{◌<◌, length, sym, arith}
use Rattle.std.proofs.lemmas.List.Filters.{FiltersInPlace-more_set, FiltersInPlace-more_no}
use Rattle.layers.proofs.slices.keep.Goals as goal
use Rattle.layers.proofs.slices.keep.Goals.{then-test, else-test}

pub loop-i-preserved : goal.loop-i-preserved
loop-i-preserved g c =
    let lt : c.loop-i.i < length c.loop-i.items = omega arith in
    elim c.if-test.branch [
      | then-test w ↦ simp (w.items-is, w.passed-is) (FiltersInPlace-more_set c.loop-i.invariant lt (sym w.if-test.ensures.value) c.index-items-i.is)
      | else-test w ↦ simp (w.items-is, w.passed-is) (FiltersInPlace-more_no c.loop-i.invariant lt (sym w.if-test.ensures.value) c.index-items-i.is)
    ]
