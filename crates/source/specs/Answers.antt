-- The faults and answers of the code, told as those of the rules. Assumes nothing.
use Rattle.std.specs.Prelude.{ℕ, Ok, Err, Result}
use Rattle.rules.specs.Causes as R
use Rattle.rules.specs.Sources.{Answer, found, fault}
use Rattle.causes.specs.Told.{cause_of}
use Rattle.source.specs.declared.fault.Fault.{Fault}
use Rattle.source.specs.declared.fault.Found.{Found}

abbrev pub fault_of : Fault → R.Fault
fault_of f = record { cause = cause_of f.cause; place = f.place; depth = f.depth }

-- how many were found, or the fault
abbrev pub answer_of : Result Found Fault → Answer ℕ
answer_of (Ok r) = found r.count
answer_of (Err f) = fault (fault_of f)
