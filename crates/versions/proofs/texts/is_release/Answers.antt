use Rattle.std.proofs.Common.{sym, ◌∙◌}
use Rattle.versions.proofs.Releases.{no_number, last_dash, last_over, last_dot}
use Rattle.versions.proofs.texts.is_release.Goals as goal

pub returns-in_default : goal.returns-in_default
returns-in_default c = sym (c.in_default.ensures 1)

pub returns-then-not-is_number : goal.returns-then-not-is_number
returns-then-not-is_number c =
    let piece = c.next_piece-piece.result in
    sym (c.in-Some.ensures 2 ∙ c.in-Some-behind_number.ensures 1
    ∙ no_number c.in-Some-behind_number.patch.now piece.text.now piece.end piece.rest.now c.next_piece-piece.ensures (sym c.if-not-is_number.ensures) 1)

pub returns-in-Dash : goal.returns-in-Dash
returns-in-Dash c =
    let piece = c.next_piece-piece.result in
    c.are_identifiers.ensures
    ∙ sym (c.in-Some.ensures 2 ∙ c.in-Some-behind_number.ensures 1
    ∙ last_dash c.in-Some-behind_number.patch.now piece.text.now piece.end piece.rest.now c.next_piece-piece.ensures (sym c.if-not-is_number.ensures) c.in-Dash.is)

pub returns-in-Last : goal.returns-in-Last
returns-in-Last c =
    let piece = c.next_piece-piece.result in
    sym (c.in-Some.ensures 2 ∙ c.in-Some-behind_number.ensures 1
    ∙ last_over c.in-Some-behind_number.patch.now piece.text.now piece.end piece.rest.now c.next_piece-piece.ensures (sym c.if-not-is_number.ensures) c.in-Last.is)

pub returns-in-Dot : goal.returns-in-Dot
returns-in-Dot c =
    let piece = c.next_piece-piece.result in
    sym (c.in-Some.ensures 2 ∙ c.in-Some-behind_number.ensures 1
    ∙ last_dot c.in-Some-behind_number.patch.now piece.text.now piece.end piece.rest.now c.next_piece-piece.ensures (sym c.if-not-is_number.ensures) c.in-Dot.is)
