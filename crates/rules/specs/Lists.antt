-- The list: the main row, then each other path that is reached, ascending, at the highest version that is reached. Of all lists that are fit,
-- that is, that have each path that is reached at that version or higher, it is the one that is nowhere above any. Assumes nothing.
use Rattle.std.specs.Prelude.{◌≡◌, ◌↔◌, List, ◌∷◌, ◌≢◌}
use Rattle.std.specs.List.{AllByRecursion}
use Rattle.rules.specs.Names.{ModuleVersion, Stands, ◌∈◌}
use Rattle.rules.specs.Rows.{AscendingRows, table}
use Rattle.rules.specs.Sources.{Meaning}
use Rattle.rules.specs.Projects.{State, main_row, off_main, Reached}
use Rattle.rules.specs.Walks.{Place, module_versions, done, list_walk}

-- the list that a sheet makes
abbrev pub list_of : State → List Place → List ModuleVersion
list_of s sheet = main_row s ∷ table (off_main s.main (module_versions sheet))

-- a list, of whatever versions: the main row, then other paths, each once, ascending
abbrev pub IsList : State → List ModuleVersion → Type 0
IsList s l = (xs : List ModuleVersion) × (l ≡ main_row s ∷ xs) × AscendingRows xs × AllByRecursion (λ x. x.path ≢ s.main) xs

-- fit: every module version that is reached stands in it, at that version or higher
abbrev pub Fit : Meaning → State → List ModuleVersion → Type 0
Fit m s l = (x : ModuleVersion) → Reached m s x → Stands x l

-- nowhere above: each of its paths stands in the other, at that version or higher
abbrev pub NowhereAbove : List ModuleVersion → List ModuleVersion → Type 0
NowhereAbove l k = (x : ModuleVersion) → x ∈ l → Stands x k

-- fit, and nowhere above any list that is fit
abbrev pub LeastFit : Meaning → State → List ModuleVersion → Type 0
LeastFit m s l = Fit m s l × ((k : List ModuleVersion) → IsList s k → Fit m s k → NowhereAbove l k)

-- THE LIST: if the walk is done, a list is the one that its sheet makes exactly when it is fit and nowhere above any list that is fit.
abbrev pub ListRightAt : Meaning → State → Type 0
ListRightAt m s = (list_walk m s).end ≡ done
    → IsList s (list_of s (list_walk m s).sheet)
    × ((l : List ModuleVersion) → IsList s l → (l ≡ list_of s (list_walk m s).sheet) ↔ LeastFit m s l)

abbrev pub ListRight : Type 0
ListRight = (m : Meaning) (s : State) → ListRightAt m s
