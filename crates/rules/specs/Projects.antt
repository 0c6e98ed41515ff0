-- A project: its state, what it sees of other modules, and what it reaches. The state is a main path, a table of requirement rows and a table of
-- exclusions. The main module requires the rows that are not excluded, and any other module version what the exclude layer finds for it; what
-- remains of both is what is not on the main path. A chain starts at the main module, and each later member is a remaining requirement of the
-- one before; its members are reached. Assumes nothing.
use Rattle.std.specs.Prelude.{◌≡◌, ◌<◌, ◌≤◌, not, List, [], ◌∷◌, length, codes, filter}
use Rattle.rules.specs.Orders.{Bytes}
use Rattle.rules.specs.Names.{ModuleVersion, same_path, ◌∈◌, Distinct}
use Rattle.rules.specs.Causes.{Fault}
use Rattle.rules.specs.Sources.{Answer, found, fault, Meaning, excluding, included, narrowed}

pub record State : Type 0 where
  pub main : Bytes
  -- a table by path
  pub rows : List ModuleVersion
  -- a table of module versions
  pub exclusions : List ModuleVersion

abbrev pub with_rows : State → List ModuleVersion → State
with_rows s rows = record { main = s.main; rows = rows; exclusions = s.exclusions }

abbrev pub with_exclusions : State → List ModuleVersion → State
with_exclusions s es = record { main = s.main; rows = s.rows; exclusions = es }

-- of two states the second differs in its rows, or in its exclusions, at most
abbrev pub OnlyRowsChange : State → State → Type 0
OnlyRowsChange s t = (t.main ≡ s.main) × (t.exclusions ≡ s.exclusions)

abbrev pub OnlyExclusionsChange : State → State → Type 0
OnlyExclusionsChange s t = (t.main ≡ s.main) × (t.rows ≡ s.rows)

-- The main module as a row. Its version is only written, and never compared: it is not the module version of that name.
abbrev pub main_row : State → ModuleVersion
main_row s = record { path = s.main; version = codes "v0.0.0" }

-- those on other paths than the main one
abbrev pub off_main : Bytes → List ModuleVersion → List ModuleVersion
off_main main = filter (λ y. not (same_path y main))

-- the remaining requirements of the main module
abbrev pub main_requirements : State → List ModuleVersion
main_requirements s = off_main s.main (included s.exclusions s.rows)

-- What a project sees of other modules. It depends on the state, but not on its rows.
pub record View : Type 0 where
  pub main : Bytes
  -- the exclude layer over the pile of sources
  pub layer : Meaning

abbrev pub view : Meaning → State → View
view m s = record { main = s.main; layer = excluding s.exclusions m }

module _ (w : View) where
  -- the remaining requirements of a module version, also of one on the main path
  abbrev pub remaining : ModuleVersion → Answer (List ModuleVersion)
  remaining x = narrowed (off_main w.main) (w.layer.requirements x)

  -- y is a remaining requirement of x
  abbrev pub Requires : ModuleVersion → ModuleVersion → Type 0
  Requires x y = (ys : List ModuleVersion) × (remaining x ≡ found ys) × (y ∈ ys)

  -- no requirement list is to be had for x
  abbrev pub WithoutList : ModuleVersion → Type 0
  WithoutList x = (f : Fault) × (remaining x ≡ fault f)

module _ (m : Meaning) (s : State) where
  -- a chain, its last member first
  pub data Chain : List ModuleVersion → Type 0 where
    start : Chain (main_row s ∷ [])
    first : {x : ModuleVersion} → x ∈ main_requirements s → Chain (x ∷ main_row s ∷ [])
    onward : {x y z : ModuleVersion} {xs : List ModuleVersion} → Chain (x ∷ z ∷ xs) → Requires (view m s) x y → Chain (y ∷ x ∷ z ∷ xs)

  -- x is reached: a chain leads to it
  abbrev pub Reached : ModuleVersion → Type 0
  Reached x = (xs : List ModuleVersion) × Chain (x ∷ xs)

  -- at most 256 module versions are reached: a list of so many holds them all
  abbrev pub Few : Type 0
  Few = (xs : List ModuleVersion) × (length xs ≤ 256) × ((x : ModuleVersion) → Reached x → x ∈ xs)

  -- more than 256 are: here are so many, none twice
  abbrev pub Many : Type 0
  Many = (xs : List ModuleVersion) × (256 < length xs) × Distinct xs × ((x : ModuleVersion) → x ∈ xs → Reached x)
