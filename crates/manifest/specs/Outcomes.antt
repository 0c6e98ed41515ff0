-- What reading a manifest gives, told by its counts, and what it leaves in the lent slices. Assumes nothing.
use Rattle.std.specs.Prelude.{ℕ, cond, ◌&&◌, List, [], length, Some, None, Ok, Err, Option, Result, nat_le}
use Rattle.rules.specs.Orders.{Bytes}
use Rattle.rules.specs.Names.{ModuleVersion}
use Rattle.rules.specs.Causes as R
use Rattle.rules.specs.Manifests as M
use Rattle.names.specs.Paths.{path_bytes}
use Rattle.modules.specs.declared.rows.Row.{Row}
use Rattle.causes.specs.declared.refusal.Refusal.{Refusal}
use Rattle.causes.specs.Told.{refusal_of, of_place}
use Rattle.manifest.specs.declared.kinds.Manifest.{Manifest}
use Rattle.manifest.specs.declared.kinds.Owner.{Owner}
use Rattle.manifest.specs.declared.kinds.Progress.{Progress}
use Rattle.manifest.specs.declared.rows.RowsRead.{RowsRead}
use Rattle.manifest.specs.Holds.{names_read}
use Rattle.manifest.specs.Owners.{most_rows}
use Rattle.manifest.specs.Views.{view}

-- a module path, and how many rows are required and excluded
pub record Counts : Type 0 where
  pub main : Bytes
  pub required : ℕ
  pub excluded : ℕ

abbrev pub outcome : Result Manifest Refusal → Result Counts R.Refusal
outcome (Ok m) = Ok (record { main = path_bytes m.main; required = m.required; excluded = m.excluded })
outcome (Err f) = Err (refusal_of f)

-- the same of a reading
abbrev pub counted : M.Reading → Result Counts R.Refusal
counted (M.manifest m) = Ok (record { main = m.main; required = length m.requires; excluded = length m.excludes })
counted (M.unread c n) = Err (of_place c n)

-- the rows that a reading leaves in the slices: none if it is refused
abbrev pub require_rows : M.Reading → List ModuleVersion
require_rows (M.manifest m) = m.requires
require_rows (M.unread c n) = []

abbrev pub exclude_rows : M.Reading → List ModuleVersion
exclude_rows (M.manifest m) = m.excludes
exclude_rows (M.unread c n) = []

-- a manifest read into two slices, which must have room for all rows that there may be
abbrev pub asked : Owner → List Row → List Row → Bytes → M.Reading
asked owner required excluded text =
    cond (nat_le (most_rows owner) (length required) && nat_le 32 (length excluded)) (M.reading (most_rows owner) text) (M.unread R.slice_too_short 0)

-- what was read, with its rows from the two slices
abbrev pub manifest_in : List Row → List Row → Manifest → M.Manifest
manifest_in required excluded m =
    record { main = path_bytes m.main; requires = names_read m.required required; excludes = names_read m.excluded excluded }

-- ---- on the way

abbrev pub reading_told : M.Reading → Result M.Manifest R.Refusal
reading_told (M.manifest m) = Ok m
reading_told (M.unread c n) = Err (of_place c n)

-- all lines are read, or one is refused
abbrev pub lines_told : Progress → RowsRead → RowsRead → Result (Unit {0}) Refusal → Result M.Manifest R.Refusal
lines_told p required excluded (Ok u) = reading_told (M.at_end (view p required excluded))
lines_told p required excluded (Err f) = Err (refusal_of f)

-- the end: the block that is open, the module path, and the counts
abbrev pub finish_of : Option M.Verb → Option Bytes → ℕ → ℕ → Result Counts R.Refusal
finish_of (Some verb) main n k = Err (of_place R.wrong_shape 0)
finish_of None None n k = Err (of_place R.module_line 0)
finish_of None (Some m) n k = Ok (record { main = m; required = n; excluded = k })
