-- What was gone through and not excluded stands in front. Assumes nothing.
use Rattle.std.proofs.Common.{◌≡◌, ◌≤◌, map, length, take}
use Rattle.rules.specs.Sources.{included}
use Rattle.modules.specs.Rows.{row_names, names_of}
use Rattle.modules.specs.Tables.{exclusion_names}
use Rattle.project.proofs.main_module.MainModule.start.Given as goal

abbrev pub invariant-loop-row : goal.invariant-loop-row
invariant-loop-row l =
    (l.count ≤ l.row-index) × (length l.rows ≡ 256)
    × (map names_of (take l.count l.rows) ≡ included (exclusion_names l.exclusions) (take l.row-index (map row_names l.row-items)))
