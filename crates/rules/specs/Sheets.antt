-- The sheet of a walk, told by what stands on it: at most 256 places, no row twice, place 0 the main row, and each later place came from an
-- earlier one. Its from number is that earlier place's; if it is 0, the row is one that the walk begins with, and else one that it comes to from
-- the row at that place. On the sheet of a list the from numbers so lead back to place 0 along a chain. Assumes nothing.
use Rattle.std.specs.Prelude.{◌≡◌, ℕ, zero, suc, ◌<◌, ◌≤◌, List, ◌∷◌, length, take, Some}
use Rattle.std.specs.List.{slice_get}
use Rattle.rules.specs.Names.{ModuleVersion, ◌∈◌, Distinct}
use Rattle.rules.specs.Sources.{Meaning}
use Rattle.rules.specs.Projects.{State, main_row, main_requirements, view, Requires, Chain}
use Rattle.rules.specs.Walks.{Place, module_versions, list_walk, trail}

-- A walk begins at the main row with the rows of which First holds, and comes from one row to another as Next says.
module _ (main : ModuleVersion) (First : ModuleVersion → Type 0) (Next : ModuleVersion → ModuleVersion → Type 0) where
  -- the walk comes to x from the place k of the sheet
  abbrev pub ComesFrom : List Place → ℕ → ModuleVersion → Type 0
  ComesFrom sheet zero x = First x
  ComesFrom sheet (suc k) x = (q : Place) × (slice_get sheet (suc k) ≡ Some q) × Next q.row x

  -- the place r, of the number i, came from an earlier place
  abbrev pub CameEarlier : List Place → ℕ → Place → Type 0
  CameEarlier sheet i r = (r.from < i) × ComesFrom sheet r.from r.row

  pub record SheetRight (sheet : List Place) : Type 0 where
    pub few : length sheet ≤ 256
    pub once : Distinct (module_versions sheet)
    pub main_first : slice_get sheet 0 ≡ Some (record { row = main; from = 0 })
    pub came : (i : ℕ) (r : Place) → slice_get sheet (suc i) ≡ Some r → CameEarlier sheet (suc i) r

-- the sheet of a list, of a project in the state s
pub record ListSheet (m : Meaning) (s : State) (sheet : List Place) : Type 0 where
  pub places : SheetRight (main_row s) (λ x. x ∈ main_requirements s) (Requires (view m s)) sheet
  pub chained : (i : ℕ) (r : Place) → slice_get sheet i ≡ Some r → (xs : List ModuleVersion) × (trail (suc i) sheet i ≡ r.row ∷ xs) × Chain m s (r.row ∷ xs)

-- THE SHEET: so is the sheet that a list's walk writes, however it ends; of one that needs a 257th place, the first 256.
abbrev pub SheetsRight : Type 0
SheetsRight = (m : Meaning) (s : State) → ListSheet m s (take 256 (list_walk m s).sheet)
