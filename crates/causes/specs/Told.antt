-- The causes and refusals of the code, told as those of the rules. Assumes nothing.
use Rattle.std.specs.Prelude.{ℕ}
use Rattle.causes.specs.declared.cause.Cause.{Cause}
use Rattle.causes.specs.declared.cause.Cause.TheVariants as C
use Rattle.causes.specs.declared.refusal.Refusal.{Refusal}
use Rattle.rules.specs.Causes as R

abbrev pub cause_of : Cause → R.Cause
cause_of C.TooLong = R.too_long
cause_of C.BadByte = R.bad_byte
cause_of C.WrongShape = R.wrong_shape
cause_of C.BadPath = R.bad_path
cause_of C.BadVersion = R.bad_version
cause_of C.ModuleLine = R.module_line
cause_of C.RowTooMany = R.row_too_many
cause_of C.Missing = R.missing
cause_of C.DamagedBuffer = R.damaged_buffer
cause_of C.TooManyToList = R.too_many_to_list
cause_of C.SliceTooShort = R.slice_too_short
cause_of C.TooManyModuleVersions = R.too_many_module_versions
cause_of C.TableFull = R.table_full
cause_of C.NothingToChange = R.nothing_to_change

abbrev pub refusal_of : Refusal → R.Refusal
refusal_of r = record { cause = cause_of r.cause; place = r.place; depth = r.depth; sheet_place = r.sheet_place }

-- a refusal that names nothing but a place
abbrev pub of_place : R.Cause → ℕ → R.Refusal
of_place c n = record { cause = c; place = n; depth = 0; sheet_place = 0 }
