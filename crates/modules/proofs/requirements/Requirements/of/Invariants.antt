-- The table of the rows that were gone through. Assumes nothing.
use Rattle.std.proofs.Common.{◌≡◌, map, take}
use Rattle.rules.specs.Rows.{table}
use Rattle.modules.specs.Rows.{row_names}
use Rattle.modules.specs.Tables.{requirement_names}
use Rattle.modules.proofs.requirements.Requirements.of.Given as goal

abbrev pub invariant-loop-row : goal.invariant-loop-row
invariant-loop-row l = requirement_names l.all ≡ table (take l.row-index (map row_names l.rows))
