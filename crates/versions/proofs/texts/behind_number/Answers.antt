use Rattle.std.proofs.Common.{◌≡◌, true, sym, ◌∙◌, arith}
use Rattle.versions.specs.declared.pieces.End.TheVariants.{Dot}
use Rattle.versions.proofs.Releases.{number_dot, number_alone}
use Rattle.versions.proofs.texts.behind_number.Goals as goal

pub returns-in-true-Dot : goal.returns-in-true-Dot
returns-in-true-Dot c =
    let piece = c.next_piece-piece.result in
    number_dot c.args.text.now piece.text.now piece.end piece.rest.now c.next_piece-piece.ensures (sym c.in-true-Dot.ensures) c.in-true-Dot.is-1

pub returns-in_default : goal.returns-in_default
returns-in_default c =
    let piece = c.next_piece-piece.result in
    let other : c.is_number.result ≡ true → piece.end ≡ Dot → ⊥ = grind arith in
    number_alone c.args.text.now piece.text.now piece.end piece.rest.now c.next_piece-piece.ensures (λ t. other (c.is_number.ensures ∙ t))
