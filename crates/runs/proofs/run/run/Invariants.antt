-- What the calls so far made of a fresh project. Assumes nothing.
use Rattle.project.specs.Projects.{state_of, pile_of}
use Rattle.walks.specs.Listed.{lent, slices_of}
use Rattle.runs.proofs.Running.{RanTo}
use Rattle.runs.proofs.run.run.Given as goal

abbrev pub invariant-loop-i : goal.invariant-loop-i
invariant-loop-i g l =
    RanTo g.C.Asked.told (pile_of g.S.Source.meaning l.initial.project) (state_of l.initial.project) (lent l.initial.sheet l.initial.list) l.calls (slices_of l.initial.sheet l.initial.list) l.initial.replies
    l.i (pile_of g.S.Source.meaning l.project) (state_of l.project) (slices_of l.sheet l.list) l.replies
