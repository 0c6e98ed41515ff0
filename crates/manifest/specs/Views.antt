-- What the code has read so far, told as the progress of the rules. Assumes nothing.
use Rattle.std.specs.Prelude.{ℕ, cond, Ok, Err, Result}
use Rattle.std.specs.Option.{option_map}
use Rattle.rules.specs.Orders.{Bytes}
use Rattle.rules.specs.Texts.{every}
use Rattle.rules.specs.Lines.{words}
use Rattle.rules.specs.Causes as R
use Rattle.rules.specs.Manifests as M
use Rattle.names.specs.Paths.{path_bytes}
use Rattle.causes.specs.declared.cause.Cause.{Cause}
use Rattle.causes.specs.Told.{cause_of}
use Rattle.lexer.specs.Told.{verb_told}
use Rattle.manifest.specs.declared.kinds.Progress.{Progress}
use Rattle.manifest.specs.declared.rows.RowsRead.{RowsRead}
use Rattle.manifest.specs.Rows.{rows_read}

abbrev pub view : Progress → RowsRead → RowsRead → M.Progress
view p required excluded = record {
  block = option_map verb_told p.block;
  main = option_map path_bytes p.main;
  requires = rows_read required;
  excludes = rows_read excluded;
}

abbrev pub viewed : Progress → RowsRead → RowsRead → Result (Unit {0}) Cause → Result M.Progress R.Cause
viewed p required excluded (Ok u) = Ok (view p required excluded)
viewed p required excluded (Err c) = Err (cause_of c)

-- one line more, of which the comment is gone
abbrev pub code_read : ℕ → M.Progress → Bytes → Result M.Progress R.Cause
code_read most p c = cond (every M.good_byte c) (M.shaped most p (M.directive p.block (words c))) (Err R.bad_byte)
