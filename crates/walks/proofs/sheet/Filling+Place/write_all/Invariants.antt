-- The rows that were gone through are written. Assumes nothing.
use Rattle.std.proofs.Common.{◌≡◌}
use Rattle.names.specs.Paths.{path_bytes}
use Rattle.walks.specs.Sheets.{sheet_of}
use Rattle.walks.proofs.Writing.{upto}
use Rattle.walks.proofs.sheet.Filling+Place.write_all.Given as goal

abbrev pub invariant-loop-row : goal.invariant-loop-row
invariant-loop-row g l =
    (l.self.items.ghost_name ≡ l.initial.self.items.ghost_name)
    × (sheet_of l.self ≡ upto g.T.AsRow.names (path_bytes l.main) l.from l.rows (sheet_of l.initial.self) l.row-index)
