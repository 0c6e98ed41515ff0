-- The rows that were gone through are entered. Assumes nothing.
use Rattle.std.proofs.Common.{◌≡◌, map}
use Rattle.names.specs.Paths.{path_bytes}
use Rattle.modules.specs.Rows.{row_names}
use Rattle.walks.specs.Fillings.{items_of}
use Rattle.walks.proofs.Entering.{tabled_upto}
use Rattle.walks.proofs.rows.Filling+Row.enter_all.Given as goal

abbrev pub invariant-loop-place : goal.invariant-loop-place
invariant-loop-place l =
    (l.self.items.ghost_name ≡ l.initial.self.items.ghost_name)
    × (map row_names (items_of l.self) ≡ tabled_upto (path_bytes l.main) l.sheet l.place-index)
