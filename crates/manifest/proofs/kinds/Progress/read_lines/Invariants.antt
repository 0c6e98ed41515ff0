-- The lines that are left, read from here, give what all lines give. Assumes nothing.
use Rattle.std.proofs.Common.{◌≡◌, length}
use Rattle.rules.specs.Lines.{lines as lines_of}
use Rattle.rules.specs.Manifests.{lines_read}
use Rattle.lexer.specs.Lefts.{lines_ahead}
use Rattle.manifest.specs.Views.{view}
use Rattle.manifest.proofs.Steps.{told_read}
use Rattle.manifest.proofs.kinds.Progress.read_lines.Given as goal

abbrev pub invariant-loop-line : goal.invariant-loop-line
invariant-loop-line l =
    let start = l.initial in
    (goal.iterator-loop-line).can_next l.line-iterator
    × (goal.iterator-loop-line).is_finite l.line-iterator
    × (l.required.most ≡ start.required.most)
    × (l.excluded.most ≡ start.excluded.most)
    × (length l.required.rows.now ≡ length start.required.rows.now)
    × (length l.excluded.rows.now ≡ length start.excluded.rows.now)
    × (l.required.rows.ghost_name ≡ start.required.rows.ghost_name)
    × (l.excluded.rows.ghost_name ≡ start.excluded.rows.ghost_name)
    × (lines_read start.required.most 0 (view start.self start.required start.excluded) (lines_of l.text)
    ≡ told_read start.required.most (view l.self l.required l.excluded) (lines_ahead l.line-iterator))
