-- The rows that were gone through are written, and their edges noted. Assumes nothing.
use Rattle.std.proofs.Common.{◌≡◌}
use Rattle.rules.specs.Walks.{module_versions}
use Rattle.names.specs.Paths.{path_bytes}
use Rattle.modules.specs.Rows.{row_names}
use Rattle.walks.specs.Sheets.{sheet_of}
use Rattle.walks.proofs.Writing.{upto}
use Rattle.lowers.specs.Learned.{edges_in, Edged}
use Rattle.lowers.proofs.Edging.{off_upto}
use Rattle.lowers.proofs.edges.write_edges.Given as goal

abbrev pub invariant-loop-row : goal.invariant-loop-row
invariant-loop-row l =
    (l.sheet.items.ghost_name ≡ l.initial.sheet.items.ghost_name)
    × (sheet_of l.sheet ≡ upto row_names (path_bytes l.main) l.at l.rows (sheet_of l.initial.sheet) l.row-index)
    × (l.learned.marked ≡ l.initial.learned.marked)
    × Edged l.at (edges_in l.initial.learned) (off_upto (path_bytes l.main) l.at l.rows l.row-index) (module_versions (sheet_of l.sheet)) (edges_in l.learned)
