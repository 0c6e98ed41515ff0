-- One row more. Assumes nothing.
use Rattle.std.specs.Prelude.{ℕ, cond, List, [], ◌∷◌, ◌++◌, length, Ok, Err, Result, nat_lt}
use Rattle.rules.specs.Orders.{Bytes}
use Rattle.rules.specs.Paths.{is_path}
use Rattle.rules.specs.Versions.{is_version}
use Rattle.rules.specs.Names.{ModuleVersion, at}
use Rattle.rules.specs.Causes as R
use Rattle.modules.specs.declared.rows.Row.{Row}
use Rattle.modules.specs.Rows.{row_names}
use Rattle.causes.specs.declared.cause.Cause.{Cause}
use Rattle.causes.specs.Told.{cause_of}
use Rattle.manifest.specs.declared.rows.RowsRead.{RowsRead}
use Rattle.manifest.specs.Holds.{names_read}

abbrev pub row_told : Result Row Cause → Result ModuleVersion R.Cause
row_told (Ok r) = Ok (row_names r)
row_told (Err c) = Err (cause_of c)

-- a path and a version, checked from left to right
abbrev pub row_read : Bytes → Bytes → Result ModuleVersion R.Cause
row_read m v = cond (is_path m) (cond (is_version v) (Ok (at m v)) (Err R.bad_version)) (Err R.bad_path)

-- the rows that are read
abbrev pub rows_read : RowsRead → List ModuleVersion
rows_read r = names_read r.count r.rows.now

abbrev pub rows_told : RowsRead → Result (Unit {0}) Cause → Result (List ModuleVersion) R.Cause
rows_told r (Ok u) = Ok (rows_read r)
rows_told r (Err c) = Err (cause_of c)

-- at most so many rows
abbrev pub more_rows : ℕ → List ModuleVersion → ModuleVersion → Result (List ModuleVersion) R.Cause
more_rows most xs x = cond (nat_lt (length xs) most) (Ok (xs ++ x ∷ [])) (Err R.row_too_many)

abbrev pub row_put : ℕ → List ModuleVersion → Row → Result (List ModuleVersion) R.Cause
row_put most xs row = more_rows most xs (row_names row)

-- a row is put behind others once it is read
abbrev pub put_read : ℕ → List ModuleVersion → Result ModuleVersion R.Cause → Result (List ModuleVersion) R.Cause
put_read most xs (Ok x) = more_rows most xs x
put_read most xs (Err c) = Err c

abbrev pub row_added : ℕ → List ModuleVersion → Bytes → Bytes → Result (List ModuleVersion) R.Cause
row_added most xs m v = put_read most xs (row_read m v)
