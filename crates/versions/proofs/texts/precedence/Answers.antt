use Rattle.std.proofs.Common.{◌≡◌, sym, ap, ◌∙◌, arith}
use Rattle.versions.specs.declared.pieces.End.TheVariants.{Last}
use Rattle.versions.proofs.Ranks.{part_behind, sound_version, order_versions, turn_decides, turn_ends, turn_again}
use Rattle.versions.proofs.texts.precedence.Goals as goal
use Rattle.versions.proofs.texts.precedence.Goals.{in-Dash, in-Dot}

pub loop-unequal-init : goal.loop-unequal-init
loop-unequal-init c =
    let a = c.args.a.now in
    let b = c.args.b.now in
    λ t u. (sound_version a t, sound_version b u, order_versions a b t u)

pub returns-in_default-then : goal.returns-in_default-then
returns-in_default-then c =
    λ t u. turn_decides c.cmp.result c.next_piece-p.ensures c.next_piece-q.ensures (c.loop-unequal.invariant t u) c.compare_pieces.ensures c.cmp.ensures c.then.ensures c.in_default-then.not-Equal

pub returns-in-Last : goal.returns-in-Last
returns-in-Last c =
    λ t u. turn_ends c.cmp.result c.next_piece-p.ensures c.next_piece-q.ensures (c.loop-unequal.invariant t u) c.compare_pieces.ensures c.cmp.ensures c.then.ensures c.in-Equal.is c.in-Last.is

pub loop-unequal-preserved : goal.loop-unequal-preserved
loop-unequal-preserved c =
    let p = c.next_piece-p.result in
    let goes_on : p.end ≡ Last → ⊥ = grind arith in
    let next : c.match-p.part ≡ part_behind c.loop-unequal.part p.end = elim c.match-p.branch [
      | in-Dash w ↦ w.part-is ∙ ap (part_behind c.loop-unequal.part) (sym w.in-Dash.is)
      | in-Dot w ↦ w.part-is ∙ ap (part_behind c.loop-unequal.part) (sym w.in-Dot.is)
    ] in
    λ t u. turn_again c.cmp.result c.next_piece-p.ensures c.next_piece-q.ensures (c.loop-unequal.invariant t u) c.compare_pieces.ensures c.cmp.ensures c.then.ensures c.in-Equal.is goes_on c.match-p.part next
