-- Why a raise is refused, told as a cause of the rules. Assumes nothing.
use Rattle.rules.specs.Causes.{Cause, table_full, nothing_to_change}
use Rattle.modules.specs.declared.requirements.raises.NotRaised.{NotRaised}
use Rattle.modules.specs.declared.requirements.raises.NotRaised.TheVariants.{NotHigher, NoRoom}

abbrev pub raise_cause : NotRaised → Cause
raise_cause NotHigher = nothing_to_change
raise_cause NoRoom = table_full
