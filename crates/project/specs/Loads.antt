-- What reading a project's manifest gives, told as the outcome of a load. Assumes nothing.
use Rattle.std.specs.Prelude.{Ok, Err, Result}
use Rattle.rules.specs.Projects.{State}
use Rattle.rules.specs.Calls.{Outcome, accepts, refuses}
use Rattle.modules.specs.Tables.{exclusion_names}
use Rattle.causes.specs.Told.{refusal_of}
use Rattle.causes.specs.declared.refusal.Refusal.{Refusal}
use Rattle.project.specs.declared.loading.Loaded.{Loaded}
use Rattle.project.specs.States.{main_state}

-- in the state s
abbrev pub loaded_as : Result Loaded Refusal → State → Outcome
loaded_as (Ok l) s = accepts (main_state l.main (exclusion_names l.exclusions))
loaded_as (Err r) s = refuses s (refusal_of r)
