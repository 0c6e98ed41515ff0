-- Each call is made in the state that the calls before it left. Assumes nothing.
use Rattle.std.proofs.Common.{◌≡◌, ℕ, ◌<◌, map, min, length, take, ap, ◌∙◌, arith}
use Rattle.rules.specs.Runs.{after, fresh}
use Rattle.project.specs.Projects.{state_of, pile_of}
use Rattle.walks.specs.Listed.{lent, slices_of}
use Rattle.runs.specs.Law.{slices_after}
use Rattle.runs.proofs.Running.{ran_more, runs_by, all_in_bounds}
use Rattle.runs.proofs.run.run.Goals as goal

pub loop-i-preserved : goal.loop-i-preserved
loop-i-preserved g c =
    let first = c.new-project.result in
    let meaning = g.S.Source.meaning in
    let here = lent c.loop-i.sheet c.loop-i.list in
    let n = lent c.args.sheet.now c.args.list.now in
    let calls = c.args.calls.now in
    let i = c.loop-i.i in
    let in_list : i < length calls = omega (arith, c.min-count.ensures, c.loop-i-test.true) in
    let room : i < length c.loop-i.replies = omega (arith, c.min-count.ensures, c.loop-i-test.true, c.loop-i.auto.replies) in
    let lengths : here ≡ n = λ j. record { sheet = c.loop-i.auto.sheet j; list = c.loop-i.auto.list j } in
    let made = c.make.ensures in
    ran_more g.C.Asked.told (pile_of meaning first) (state_of first) n calls (slices_of c.args.sheet.now c.args.list.now) c.args.replies.now
    i (pile_of meaning c.loop-i.project) (pile_of meaning c.make.new.project) (state_of c.loop-i.project) (state_of c.make.new.project)
    (slices_of c.loop-i.sheet c.loop-i.list) (slices_of c.make.new.sheet c.make.new.list) c.loop-i.replies c.make.result here c.index-calls-i.result
    c.loop-i.invariant lengths in_list c.index-calls-i.is room made.same made.value made.after made.items

pub returns-clause-law : goal.returns-clause-law
returns-clause-law g c =
    let ran = c.loop-i.invariant in
    let first = c.new-project.result in
    let m = g.S.Source.meaning c.args.pile in
    let m0 : pile_of g.S.Source.meaning first ≡ m = ap g.S.Source.meaning c.new-project.ensures.same in
    let s0 : state_of first ≡ fresh = c.new-project.ensures.value in
    let n = lent c.args.sheet.now c.args.list.now in
    let calls = c.args.calls.now in
    let k = min (length calls) (length c.args.replies.now) in
    let all : c.loop-i.i ≡ k = omega (arith, c.min-count.ensures, c.loop-i-test.false, c.loop-i.auto.i-end) in
    let told = g.C.Asked.told n in
    let cs = map told (take k calls) in
    let made : map told (take c.loop-i.i calls) ≡ cs = ap (λ (j : ℕ). map told (take j calls)) all in
    let b = slices_of c.args.sheet.now c.args.list.now in
    runs_by m (g.S.Source.lawful c.args.pile) cs (all_in_bounds told (g.met.C.Asked.bounded n) (take k calls)) (state_of c.loop-i.project) b (slices_of c.loop-i.sheet c.loop-i.list)
    (ran.state ∙ λ h. after (m0 h) (s0 h) (made h)) (ran.slices ∙ λ h. slices_after (m0 h) (s0 h) (made h) b)
