-- The versions that are left, behind what is written, are the whole offer. Assumes nothing.
use Rattle.std.proofs.Common.{◌≡◌, length, reverse}
use Rattle.modules.specs.Rows.{row_names}
use Rattle.walks.specs.Sheets.{sheet_of}
use Rattle.lowers.proofs.Offering.{sheet_with}
use Rattle.lowers.proofs.offers.write_versions.Given as goal

abbrev pub invariant-loop-version : goal.invariant-loop-version
invariant-loop-version l =
    (goal.iterator-loop-version).can_next l.version-iterator
    × (goal.iterator-loop-version).is_finite l.version-iterator
    × (l.sheet.items.ghost_name ≡ l.initial.sheet.items.ghost_name)
    × (sheet_with (row_names l.ceiling) (reverse l.versions) (sheet_of l.sheet) (length l.yielded) ≡ sheet_with (row_names l.ceiling) (reverse l.versions) (sheet_of l.initial.sheet) 0)
