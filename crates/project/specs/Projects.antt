-- A project over a source, told as a state of the rules and the meaning of its pile. Assumes nothing.
use Rattle.std.specs.Prelude.{List, Result}
use Rattle.rules.specs.Projects.{State}
use Rattle.rules.specs.Sources.{Meaning}
use Rattle.rules.specs.Calls.{Outcome}
use Rattle.modules.specs.Tables.{exclusion_names}
use Rattle.modules.specs.declared.rows.Row.{Row}
use Rattle.causes.specs.declared.refusal.Refusal.{Refusal}
use Rattle.walks.specs.Listed.{reply_of, slices_of}
use Rattle.walks.specs.declared.counts.Counts.{Counts}
use Rattle.walks.specs.declared.place.Place.{Place}
use Rattle.project.specs.States.{main_state}
use Rattle.project.specs.declared.project.Project.{Project}

abbrev pub state_of : {S : Type 0} → Project S → State
state_of p = main_state p.main (exclusion_names p.layer.exclusions)

-- what the source below the exclude layer means
abbrev pub pile_of : {S : Type 0} → (S → Meaning) → Project S → Meaning
pile_of meaning p = meaning p.layer.below

-- a call with two slices: its answer, the state that it leaves, and what the slices then hold
abbrev pub counted_as : Result Counts Refusal → State → List Place → List Row → Outcome
counted_as r s sheet list = record { reply = reply_of r; state = s; slices = slices_of sheet list }
