-- A project of the code, told as a state of the rules, and what a call of it answers and leaves, told as an outcome. Assumes nothing.
use Rattle.std.specs.Prelude.{List, Ok, Err, Result}
use Rattle.rules.specs.Names.{ModuleVersion}
use Rattle.rules.specs.Projects.{State}
use Rattle.rules.specs.Calls.{Outcome, accepts, refuses}
use Rattle.names.specs.Paths.{path_bytes}
use Rattle.modules.specs.Tables.{requirement_names}
use Rattle.causes.specs.Told.{refusal_of}
use Rattle.causes.specs.declared.refusal.Refusal.{Refusal}
use Rattle.project.specs.declared.main_module.MainModule.{MainModule}

-- a main module, with exclusions beside it
abbrev pub main_state : MainModule → List ModuleVersion → State
main_state m es = record { main = path_bytes m.path; rows = requirement_names m.requirements; exclusions = es }

-- a call without slices: its answer, and the state that it leaves
abbrev pub changed : Result (Unit {0}) Refusal → State → Outcome
changed (Ok u) s = accepts s
changed (Err r) s = refuses s (refusal_of r)
