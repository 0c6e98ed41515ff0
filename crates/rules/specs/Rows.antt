-- The tables of the subject. Requirement rows ascend by path, one a path: where a path comes twice, its higher version counts. Exclusions ascend
-- as module versions, and the versions of a path as versions, each once. All of them are entered, looked up, joined and removed by the one set
-- of rules in Tables. Assumes nothing.
use Rattle.std.specs.Prelude.{cond, List, [], Option}
use Rattle.std.specs.Ordering.{is_lt}
use Rattle.rules.specs.Orders.{Bytes}
use Rattle.rules.specs.Paths.{path_order}
use Rattle.rules.specs.Versions.{version_order}
use Rattle.rules.specs.Names.{ModuleVersion, module_order}
use Rattle.rules.specs.Tables.{keep, Ascending, lookup, entered, entered_all, joined, removed, Absent}

-- a thing that is its own key
abbrev pub own : {A : Type 0} → A → A
own x = x

-- ---- requirement rows

abbrev pub path_of : ModuleVersion → Bytes
path_of x = x.path

-- of two rows of one path, the one of the higher version
abbrev pub higher : ModuleVersion → ModuleVersion → ModuleVersion
higher x y = cond (is_lt (version_order x.version y.version)) y x

abbrev pub AscendingRows : List ModuleVersion → Type 0
AscendingRows = Ascending path_of path_order

-- the row of a path
abbrev pub row_of : Bytes → List ModuleVersion → Option ModuleVersion
row_of = lookup path_of path_order

-- the table has no row of a path
abbrev pub NoRow : Bytes → List ModuleVersion → Type 0
NoRow = Absent path_of path_order

-- the table with a row entered at its path
abbrev pub with_row : ModuleVersion → List ModuleVersion → List ModuleVersion
with_row = entered path_of path_order higher

abbrev pub without_row : Bytes → List ModuleVersion → List ModuleVersion
without_row = removed path_of path_order

-- the table that rows make, in whatever order they come: of each path the highest
abbrev pub table : List ModuleVersion → List ModuleVersion
table = entered_all path_of path_order higher []

-- ---- exclusions

abbrev pub AscendingExclusions : List ModuleVersion → Type 0
AscendingExclusions = Ascending own module_order

abbrev pub with_exclusion : ModuleVersion → List ModuleVersion → List ModuleVersion
with_exclusion = entered own module_order keep

-- the table that exclusions make: each once
abbrev pub exclusion_table : List ModuleVersion → List ModuleVersion
exclusion_table = entered_all own module_order keep []

-- ---- the versions of a path

abbrev pub AscendingVersions : List Bytes → Type 0
AscendingVersions = Ascending own version_order

abbrev pub joined_versions : List Bytes → List Bytes → List Bytes
joined_versions = joined own version_order
