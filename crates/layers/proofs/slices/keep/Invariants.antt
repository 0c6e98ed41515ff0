use Rattle.std.proofs.lemmas.List.Filters.{FiltersInPlace}
use Rattle.layers.proofs.slices.keep.Given as goal

abbrev pub invariant-loop-i : goal.invariant-loop-i
invariant-loop-i g l = FiltersInPlace (g.P.Test.passes l.passing) l.initial.items l.items l.passed l.i
