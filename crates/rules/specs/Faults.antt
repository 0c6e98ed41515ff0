-- When a list is refused, and what the refusal shows. While at most 256 module versions are reached, it is refused exactly when for some reached
-- one, the main one apart, no requirement list is to be had; and then the sheet shows such a one at the place that the refusal names, with a
-- chain to it. Assumes nothing.
use Rattle.std.specs.Prelude.{◌≡◌, ℕ, suc, ◌⊎◌, ◌↔◌, List, ◌∷◌, ◌≢◌}
use Rattle.rules.specs.Names.{ModuleVersion}
use Rattle.rules.specs.Causes.{Fault}
use Rattle.rules.specs.Sources.{Meaning, fault}
use Rattle.rules.specs.Projects.{State, Reached, Chain, Few, view, WithoutList, remaining}
use Rattle.rules.specs.Walks.{Place, done, stopped, list_walk, trail}

module _ (m : Meaning) (s : State) where
  -- the walk ended in a fault
  abbrev pub Stopped : Type 0
  Stopped = (p : ℕ) × (f : Fault) × ((list_walk m s).end ≡ stopped p f)

  -- for some module version that is reached, the main one apart, no requirement list is to be had
  abbrev pub Broken : Type 0
  Broken = (x : ModuleVersion) × Reached m s x × (x.path ≢ s.main) × WithoutList (view m s) x

  -- What a refusal shows on a sheet: at its place stands a module version with just that fault, and the from numbers lead back from there
  -- along a chain from the main module.
  abbrev pub ShownOn : List Place → ℕ → Fault → Type 0
  ShownOn sheet p f = (x : ModuleVersion) × (xs : List ModuleVersion)
      × (trail (suc p) sheet p ≡ x ∷ xs)
      × Chain m s (x ∷ xs)
      × (remaining (view m s) x ≡ fault f)
      × (x.path ≢ s.main)

  abbrev pub Shown : ℕ → Fault → Type 0
  Shown = ShownOn (list_walk m s).sheet

  -- THE REFUSAL: while at most 256 module versions are reached, the walk is done or ends in a fault, and in a fault exactly when for some
  -- reached one no list is to be had; and a fault is always shown.
  abbrev pub RefusalRightAt : Type 0
  RefusalRightAt = (Few m s → (((list_walk m s).end ≡ done) ⊎ Stopped) × (Stopped ↔ Broken))
      × ((p : ℕ) (f : Fault) → (list_walk m s).end ≡ stopped p f → Shown p f)

abbrev pub RefusalRight : Type 0
RefusalRight = (m : Meaning) (s : State) → RefusalRightAt m s
