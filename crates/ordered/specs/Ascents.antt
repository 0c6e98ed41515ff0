-- That a list ascends by a key, as a test: the form in which the type of a table can hold the fact. Assumes nothing.
use Rattle.std.specs.Prelude.{◌≡◌, Bool, true, ◌&&◌, ◌↔◌, List, [], ◌∷◌}
use Rattle.std.specs.declared.cmp.Ordering.{Ordering}
use Rattle.std.specs.Ordering.{is_lt}
use Rattle.rules.specs.Tables.{Ascending}

module _ {A K : Type 0} (key : A → K) (order : K → K → Ordering) where
  -- x stands before each of a list
  abbrev pub is_before : A → List A → Bool
  is_before x [] = true
  is_before x (y ∷ ys) = is_lt (order (key x) (key y)) && is_before x ys

  -- each item stands before all that follow it
  abbrev pub is_ascending : List A → Bool
  is_ascending [] = true
  is_ascending (x ∷ xs) = is_before x xs && is_ascending xs

-- THE TEST: it is passed by the lists that ascend, and by no other
abbrev pub AscentsRight : Type 0 → Type 0 → Type 0
AscentsRight A K = (key : A → K) (order : K → K → Ordering) (xs : List A) → (is_ascending key order xs ≡ true) ↔ Ascending key order xs
