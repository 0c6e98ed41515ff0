-- The module's path. Assumes nothing.
use Rattle.std.specs.Prelude.{cond, is_some, Ok, Err, Option, Result}
use Rattle.rules.specs.Orders.{Bytes}
use Rattle.rules.specs.Paths.{is_path}
use Rattle.rules.specs.Causes as R
use Rattle.names.specs.Paths.{Path, path_bytes}
use Rattle.causes.specs.declared.cause.Cause.{Cause}
use Rattle.causes.specs.Told.{cause_of}

abbrev pub main_told : Result Path Cause → Result Bytes R.Cause
main_told (Ok p) = Ok (path_bytes p)
main_told (Err c) = Err (cause_of c)

-- the path of a module line, where another may have been read
abbrev pub main_read : Option Bytes → Bytes → Result Bytes R.Cause
main_read old m = cond (is_path m) (cond (is_some old) (Err R.module_line) (Ok m)) (Err R.bad_path)
