-- The names that a row and a module version stand for, and their order. Assumes nothing.
use Rattle.std.specs.declared.cmp.Ordering.{Ordering}
use Rattle.rules.specs.Names.{ModuleVersion as Names, module_order}
use Rattle.names.specs.Paths.{PlainPath, plain_path_bytes}
use Rattle.versions.specs.Values.{plain_version_bytes}
use Rattle.modules.specs.declared.rows.Row.{Row}
use Rattle.modules.specs.declared.rows.ModuleVersion.{ModuleVersion}

-- the names of a row
abbrev pub row_names : Row → Names
row_names r = record { path = plain_path_bytes r.path; version = plain_version_bytes r.version }

-- the row of a module version
abbrev pub row_of : ModuleVersion → Row
row_of m = record { path = m.path.plain; version = m.version.plain }

-- the names of a module version
abbrev pub names_of : ModuleVersion → Names
names_of m = row_names (row_of m)

abbrev pub row_order : Row → Row → Ordering
row_order r s = module_order (row_names r) (row_names s)

abbrev pub module_version_order : ModuleVersion → ModuleVersion → Ordering
module_version_order m n = row_order (row_of m) (row_of n)

-- the key of a requirement row
abbrev pub row_path : Row → PlainPath
row_path r = r.path
