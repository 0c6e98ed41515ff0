-- What is promised of a list and of a lower, in the subject's words, of the very answer and slices that the call leaves: o is what it came to, in the state s of a
-- project over a pile that means m, and in slices of the lengths n. Assumes nothing.
use Rattle.std.specs.Prelude.{◌≡◌, true, ◌↔◌, List}
use Rattle.rules.specs.Orders.{Bytes}
use Rattle.rules.specs.Names.{ModuleVersion}
use Rattle.rules.specs.Sources.{Meaning}
use Rattle.rules.specs.Projects.{State, Few}
use Rattle.rules.specs.Slices.{Lent, long_enough}
use Rattle.rules.specs.Lowers.{StandsAbove}
use Rattle.rules.specs.Calls.{Outcome, list, does}
use Rattle.rules.specs.Runs.{Counted, Gives, Least, Deserved, Listing, Lowerable, Lowering, Lowered}

module _ (m : Meaning) (s : State) (n : Lent) where
  -- LEAST: where a list is given, the list slice holds it, and it is the one list that is fit and nowhere above any fit list.
  abbrev pub GivenLeast : Outcome → Type 0
  GivenLeast o = Counted o → (l : List ModuleVersion) × Gives o n l × Least m s l

  -- DESERVED: in slices long enough, while at most 256 module versions are reached, it is refused exactly when one of them, the main one apart, has
  -- no manifest; and the refusal shows such a one at its sheet place, with a chain to it by the from numbers.
  abbrev pub RefusedDeserved : Outcome → Type 0
  RefusedDeserved o = long_enough n ≡ true → Few m s → Deserved m s o

  -- SHOWN: what the sheet then holds, given or refused: places that came one from another, each once, and just what is reached where it is given
  abbrev pub SheetShown : Outcome → Type 0
  SheetShown o = long_enough n ≡ true → Listing m s n o

  module _ (p v : Bytes) where
    -- KEPT: where a lower of the path p to the version v is accepted, the rows are the highest that can stand together under the ceilings: they lie in
    -- a sound set, and no sound set holds an old path above its row. A list taken right then is given, and shows exactly them on the old paths.
    abbrev pub RowsKept : Outcome → Type 0
    RowsKept o = Counted o → Lowered m s p v n o

    -- when it is accepted
    abbrev pub LoweredWhen : Outcome → Type 0
    LoweredWhen o = Counted o ↔ Lowerable m s p v n

    -- what its sheet and its refusal show, where the list is given and has the path above the version
    abbrev pub LoweringShown : Outcome → Type 0
    LoweringShown o = (l : List ModuleVersion) → Gives (does m s (list n)) n l → StandsAbove p v l → Lowering m s p v n l o
