-- The rows that are copied, and those that are left, are all. Assumes nothing.
use Rattle.std.proofs.Common.{◌≡◌, ◌≤◌, true, ◌++◌, map, length, take}
use Rattle.std.specs.List.{AllByRecursion}
use Rattle.rules.specs.Names.{is_module_version}
use Rattle.modules.specs.Rows.{row_names}
use Rattle.fields.specs.Pairs.{pairs_in}
use Rattle.shelf.specs.Records.{rows_at}
use Rattle.shelf.proofs.reading.copy_rows.Given as goal

abbrev pub invariant-loop-pair : goal.invariant-loop-pair
invariant-loop-pair l =
    (l.count ≤ length l.rows)
    × (take l.count (map row_names l.rows) ++ rows_at (pairs_in l.rest) ≡ rows_at (pairs_in l.bytes))
    × AllByRecursion (λ r. is_module_version r ≡ true) (rows_at (pairs_in l.rest))

abbrev pub decreases-loop-pair : goal.decreases-loop-pair
decreases-loop-pair l = length l.rest
