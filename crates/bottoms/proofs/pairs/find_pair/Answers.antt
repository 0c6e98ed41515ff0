-- The pair is here, or later, or nowhere. Assumes nothing.
use Rattle.std.proofs.Common.{cond, Some, sym, ap, ◌∙◌, arith}
use Rattle.modules.specs.Rows.{names_of}
use Rattle.fields.specs.Pairs.{pairs_in}
use Rattle.fields.specs.Views.{pair_cut_of}
use Rattle.fields.proofs.Pieces.{pairs_some, pairs_none, pair_size}
use Rattle.bottoms.specs.Seeking.{seen, first_from}
use Rattle.bottoms.proofs.pairs.find_pair.Goals as goal

pub loop-pair-smaller : goal.loop-pair-smaller
loop-pair-smaller g c = omega (arith, pair_size c.loop-pair.rest.now (pair_cut_of c.in-Some.pair) c.in-Some.ensures.value)

pub loop-pair-preserved : goal.loop-pair-preserved
loop-pair-preserved g c =
    let asked = g.P.Pairs.asked (names_of c.args.of.now) in
    let p = pair_cut_of c.in-Some.pair in
    c.loop-pair.invariant
    ∙ ap (first_from asked) (pairs_some c.loop-pair.rest.now p c.in-Some.ensures.value)
    ∙ ap (λ b. cond b (Some (seen p)) (first_from asked (pairs_in p.after))) (sym c.if-is_asked.ensures.value)

pub returns-then-is_asked : goal.returns-then-is_asked
returns-then-is_asked g c =
    let asked = g.P.Pairs.asked (names_of c.args.of.now) in
    let p = pair_cut_of c.in-Some.pair in
    record {
      value = sym (c.loop-pair.invariant
          ∙ ap (first_from asked) (pairs_some c.loop-pair.rest.now p c.in-Some.ensures.value)
          ∙ ap (λ b. cond b (Some (seen p)) (first_from asked (pairs_in p.after))) (sym c.if-is_asked.ensures.value));
    }

pub returns : goal.returns
returns g c =
    let asked = g.P.Pairs.asked (names_of c.args.of.now) in
    record { value = sym (c.loop-pair.invariant ∙ ap (first_from asked) (pairs_none c.loop-pair.rest.now c.in_default.ensures.value)) }
