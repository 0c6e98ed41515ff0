-- The same names are the same row, and the same module version. Assumes nothing.
use Rattle.std.specs.Prelude.{◌≡◌}
use Rattle.std.proofs.Common.{ap}
use Rattle.names.specs.Canon.{same_plain_path, same_path}
use Rattle.versions.specs.Told.{same_plain_version, same_version}
use Rattle.modules.specs.Rows.{row_names, names_of}
use Rattle.modules.specs.declared.rows.Row.{Row}
use Rattle.modules.specs.declared.rows.ModuleVersion.{ModuleVersion}

pub same_row : (r s : Row) → row_names r ≡ row_names s → r ≡ s
same_row r s e i = record {
  path = same_plain_path r.path s.path (ap (λ x. x.path) e) i;
  version = same_plain_version r.version s.version (ap (λ x. x.version) e) i;
}

pub same_module_version : (m n : ModuleVersion) → names_of m ≡ names_of n → m ≡ n
same_module_version m n e i = record {
  path = same_path m.path n.path (ap (λ x. x.path) e) i;
  version = same_version m.version n.version (ap (λ x. x.version) e) i;
}
