-- What is answered to a row that is raised. Assumes nothing.
use Rattle.std.specs.Prelude.{cond, List, length, Some, None, Ok, Err, Option, Result, nat_le}
use Rattle.std.specs.Ordering.{is_le}
use Rattle.rules.specs.Names.{ModuleVersion}
use Rattle.rules.specs.Rows.{row_of}
use Rattle.rules.specs.Versions.{version_order}
use Rattle.modules.specs.declared.requirements.raises.NotRaised.{NotRaised}
use Rattle.modules.specs.declared.requirements.raises.NotRaised.TheVariants.{NotHigher, NoRoom}

-- refused if the row of its path is that high already, or if it has none and there are 256
abbrev pub raise_told_by : Option ModuleVersion → List ModuleVersion → ModuleVersion → Result (Unit {0}) NotRaised
raise_told_by (Some y) rows x = cond (is_le (version_order x.version y.version)) (Err NotHigher) (Ok tt)
raise_told_by None rows x = cond (nat_le 256 (length rows)) (Err NoRoom) (Ok tt)

abbrev pub raise_told : List ModuleVersion → ModuleVersion → Result (Unit {0}) NotRaised
raise_told rows x = raise_told_by (row_of x.path rows) rows x
