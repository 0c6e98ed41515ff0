-- The walk. A sheet is the places that a walk writes; a place is a row with the number of the place that it came from. Place 0 is the main row.
-- The requirements of the main module are written first, then the places from 1 on are questioned in order: of an answer each row in turn that
-- is not yet on the sheet is appended, from the place in hand. The walk stops at the first fault, or when a 257th place would be needed. From
-- a place the from numbers lead back to place 0. Assumes nothing.
use Rattle.std.specs.Prelude.{ℕ, zero, suc, cond, List, [], ◌∷◌, ◌++◌, map, length, Some, None, Option, nat_lt}
use Rattle.std.specs.List.{slice_get}
use Rattle.rules.specs.Names.{ModuleVersion, has}
use Rattle.rules.specs.Causes.{Fault}
use Rattle.rules.specs.Sources.{Answer, found, fault, Meaning}
use Rattle.rules.specs.Projects.{State, main_row, main_requirements, view, remaining}

-- a place of a sheet
pub record Place : Type 0 where
  pub row : ModuleVersion
  pub from : ℕ

abbrev pub module_versions : List Place → List ModuleVersion
module_versions = map (λ r. r.row)

-- the sheet with the row x, which came from a place, appended unless it is there
abbrev pub noted : ℕ → ModuleVersion → List Place → List Place
noted from x sheet = cond (has (module_versions sheet) x) sheet (sheet ++ record { row = x; from = from } ∷ [])

-- with one row after another
abbrev pub written : ℕ → List ModuleVersion → List Place → List Place
written from [] sheet = sheet
written from (x ∷ xs) sheet = written from xs (noted from x sheet)

-- how a walk ends
pub data End : Type 0 where
  -- every place was questioned
  done : End
  -- the question of a place brought a fault
  stopped : ℕ → Fault → End
  -- a 257th place is needed
  no_room : End

pub record Walked : Type 0 where
  pub sheet : List Place
  pub end : End

abbrev pub ended : End → List Place → Walked
ended e sheet = record { sheet = sheet; end = e }

-- what comes next, if the sheet has at most 256 places
abbrev pub if_room : (List Place → Walked) → List Place → Walked
if_room next sheet = cond (nat_lt 256 (length sheet)) (ended no_room sheet) (next sheet)

-- what comes after an answer
abbrev pub answered : (List Place → Walked) → ℕ → List Place → Answer (List ModuleVersion) → Walked
answered next place sheet (fault f) = ended (stopped place f) sheet
answered next place sheet (found xs) = if_room next (written place xs sheet)

-- what comes after a place is read
abbrev pub questioned : (ModuleVersion → Answer (List ModuleVersion)) → (List Place → Walked) → ℕ → List Place → Option Place → Walked
questioned ask next place sheet None = ended done sheet
questioned ask next place sheet (Some r) = answered next place sheet (ask r.row)

-- The walk from a place on, over `left` places at most. It is not an `abbrev`: a proof that computed it at 255 would write the turns out.
unfoldable pub walk : (ModuleVersion → Answer (List ModuleVersion)) → ℕ → ℕ → List Place → Walked
walk ask zero place sheet = ended done sheet
walk ask (suc left) place sheet = questioned ask (walk ask left (suc place)) place sheet (slice_get sheet place)

abbrev pub first_sheet : State → List Place
first_sheet s = record { row = main_row s; from = 0 } ∷ []

-- the walk that a list makes
unfoldable pub list_walk : Meaning → State → Walked
list_walk m s = if_room (walk (remaining (view m s)) 255 1) (written 0 (main_requirements s) (first_sheet s))

-- the module versions that the from numbers lead through, from a place back to place 0
abbrev pub trail_on : ℕ → List ModuleVersion → List ModuleVersion
trail_on zero rest = []
trail_on (suc place) rest = rest

abbrev pub trail_at : (ℕ → List ModuleVersion) → ℕ → Option Place → List ModuleVersion
trail_at back place None = []
trail_at back place (Some r) = r.row ∷ trail_on place (back r.from)

unfoldable pub trail : ℕ → List Place → ℕ → List ModuleVersion
trail zero sheet place = []
trail (suc left) sheet place = trail_at (trail left sheet) place (slice_get sheet place)
