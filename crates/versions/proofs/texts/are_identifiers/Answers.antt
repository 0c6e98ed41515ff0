use Rattle.std.proofs.Common.{sym, ◌∙◌}
use Rattle.versions.proofs.Releases.{no_identifier, identifier_dot, identifier_over}
use Rattle.versions.proofs.texts.are_identifiers.Goals as goal

pub returns-then-not-is_identifier : goal.returns-then-not-is_identifier
returns-then-not-is_identifier c =
    let piece = c.next_piece-piece.result in
    sym (no_identifier c.loop-piece.rest.now piece.text.now piece.end piece.rest.now c.next_piece-piece.ensures (sym c.if-not-is_identifier.ensures))
    ∙ c.loop-piece.invariant

pub loop-piece-preserved : goal.loop-piece-preserved
loop-piece-preserved c =
    let piece = c.next_piece-piece.result in
    sym (identifier_dot c.loop-piece.rest.now piece.text.now piece.end piece.rest.now c.next_piece-piece.ensures (sym c.if-not-is_identifier.ensures) c.in-Dot.is)
    ∙ c.loop-piece.invariant

pub returns-in_default : goal.returns-in_default
returns-in_default c =
    let piece = c.next_piece-piece.result in
    sym (identifier_over c.loop-piece.rest.now piece.text.now piece.end piece.rest.now c.next_piece-piece.ensures (sym c.if-not-is_identifier.ensures) c.in_default.not-Dot)
    ∙ c.loop-piece.invariant
