-- What is learned of the places of a sheet, told as the rules say it. Assumes nothing.
use Rattle.std.specs.Prelude.{◌≡◌, ℕ, ◌+◌, ◌*◌, ◌<◌, ◌≤◌, Bool, true, false, ◌⊎◌, List, length, Some, slice_index_or}
use Rattle.std.specs.List.{slice_get}
use Rattle.rules.specs.Names.{ModuleVersion, ◌∈◌}
use Rattle.rules.specs.Sources.{found}
use Rattle.rules.specs.Projects.{View, remaining, Requires}
use Rattle.rules.specs.Walks as R
use Rattle.rules.specs.Walks.{module_versions}
use Rattle.rules.specs.Lowers.{is_above, is_bad}
use Rattle.lowers.specs.declared.learned.Edge.{Edge}
use Rattle.lowers.specs.declared.learned.Learned.{Learned}

-- the edges that were learned
abbrev pub edges_in : Learned → List Edge
edges_in l = l.edges.items

-- whether a place is marked
abbrev pub is_marked : Learned → ℕ → Bool
is_marked l i = slice_index_or l.marked i false

-- Edges were added from a place to rows of a sheet: to all of xs, and to no others.
pub record Edged (at : ℕ) (before : List Edge) (xs sheet : List ModuleVersion) (after : List Edge) : Type 0 where
  pub old : (e : Edge) → e ∈ before → e ∈ after
  pub new : (e : Edge) → e ∈ after → (e ∈ before) ⊎ ((e.from ≡ at) × ((y : ModuleVersion) × (y ∈ xs) × (slice_get sheet e.to ≡ Some y)))
  pub all : (y : ModuleVersion) → y ∈ xs → (e : Edge) × (e ∈ after) × (e.from ≡ at) × (slice_get sheet e.to ≡ Some y)
  pub few : length after ≤ length before + length xs

module _ (w : View) (cs : List ModuleVersion) (sheet : List R.Place) (l : Learned) where
  -- x, at the place i, is under its ceiling, and has a list to whose rows the edges from i lead
  abbrev pub Cleared : ℕ → ModuleVersion → Type 0
  Cleared i x = (is_above cs x ≡ false)
      × ((ys : List ModuleVersion) × (remaining w x ≡ found ys)
      × ((y : ModuleVersion) → y ∈ ys → (e : Edge) × (e ∈ edges_in l) × (e.from ≡ i) × (slice_get (module_versions sheet) e.to ≡ Some y)))

  -- What was learned of the places from 1 up to, and without, the place `at` is right: those that are bad are marked, and of the others the edges are
  -- there. An edge leads from a row to one that it requires.
  pub record Knows (at : ℕ) : Type 0 where
    pub few : length (edges_in l) ≤ 64 * at
    pub edges : (e : Edge) → e ∈ edges_in l
        → (x : ModuleVersion) × (y : ModuleVersion) × (slice_get (module_versions sheet) e.from ≡ Some x) × (slice_get (module_versions sheet) e.to ≡ Some y) × Requires w x y
    pub marked : (i : ℕ) (x : ModuleVersion) → i < at → slice_get (module_versions sheet) i ≡ Some x → is_marked l i ≡ true → is_bad w cs x ≡ true
    pub clear : (i : ℕ) (x : ModuleVersion) → 1 ≤ i → i < at → slice_get (module_versions sheet) i ≡ Some x → is_marked l i ≡ false → Cleared i x
    pub unseen : (i : ℕ) → at ≤ i → is_marked l i ≡ false

-- the row at the place i is not above its ceiling
abbrev pub Under : List ModuleVersion → ℕ → List R.Place → Type 0
Under cs i sheet = (x : ModuleVersion) → slice_get (module_versions sheet) i ≡ Some x → is_above cs x ≡ false
