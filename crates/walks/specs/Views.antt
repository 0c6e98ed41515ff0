-- A walk over any source and from any rows: what a walk sees, its sheet at the start, one question of it, and the whole. Assumes nothing.
use Rattle.std.specs.Prelude.{◌≡◌, ℕ, ◌≤◌, true, cond, List, [], Some, Option, option_and_then}
use Rattle.std.specs.Bool.{then_some}
use Rattle.std.specs.List.{slice_get}
use Rattle.rules.specs.Orders.{Bytes}
use Rattle.rules.specs.Names.{ModuleVersion, is_module_version, same_path}
use Rattle.rules.specs.Sources.{Meaning}
use Rattle.rules.specs.Rows.{with_row}
use Rattle.rules.specs.Projects.{State, View, off_main, remaining}
use Rattle.rules.specs.Walks.{Place, module_versions, written, Walked, ended, done, if_room, questioned, walk, first_sheet}

-- a state that has no more than a main path
abbrev pub bare : Bytes → State
bare main = record { main = main; rows = []; exclusions = [] }

-- other modules as a source means them
abbrev pub seen_by : Bytes → Meaning → View
seen_by main m = record { main = main; layer = m }

-- a table with a row entered, unless it is on the main path
abbrev pub entered_off : Bytes → ModuleVersion → List ModuleVersion → List ModuleVersion
entered_off main x t = cond (same_path x main) t (with_row x t)

-- every row but the main row is well formed
abbrev pub Formed : List Place → Type 0
Formed sheet = (i : ℕ) (r : Place) → 1 ≤ i → slice_get sheet i ≡ Some r → is_module_version r.row ≡ true

-- the module version at a place, if there is a row and it is well formed
abbrev pub module_version_at : List Place → ℕ → Option ModuleVersion
module_version_at sheet i = option_and_then (λ x. then_some (is_module_version x) x) (slice_get (module_versions sheet) i)

-- the sheet after the question of a place, or how the walk ends with it
abbrev pub asked_at : View → ℕ → List Place → Walked
asked_at w i sheet = questioned (remaining w) (ended done) i sheet (slice_get sheet i)

-- the walk that starts from any rows
unfoldable pub walk_from : View → List ModuleVersion → Walked
walk_from w start = if_room (walk (remaining w) 255 1) (written 0 (off_main w.main start) (first_sheet (bare w.main)))
