-- The test of ascending lists, and that it is still passed after an entry, a removal and a joining. Assumes nothing.
use Rattle.std.proofs.Common.{◌≡◌, true, false, List, [], ◌∷◌, Ordering, Less, Equal, Greater, sym, refl, ap, subst}
use Rattle.std.specs.Ordering.{is_lt}
use Rattle.std.specs.List.{AllByRecursion}
use Rattle.std.proofs.lemmas.Bool.{and_parts, and_from, both_ways}
use Rattle.rules.specs.Orders.{Laws}
use Rattle.rules.specs.Tables.{Ascending, Meets, entered, joined, removed}
use Rattle.rules.proofs.Tables.{tables_right}
use Rattle.ordered.specs.Ascents.{is_before, is_ascending, AscentsRight}

less : (o : Ordering) → is_lt o ≡ true → o ≡ Less
less Less e = refl
less Equal e = absurd (both_ways false refl e)
less Greater e = absurd (both_ways false refl e)

module _ {A K : Type 0} (key : A → K) (order : K → K → Ordering) where
  before_all : (x : A) (xs : List A) → is_before key order x xs ≡ true → AllByRecursion (λ y. order (key x) (key y) ≡ Less) xs
  before_all x [] e = tt
  before_all x (y ∷ ys) e =
      let (here, there) = and_parts (is_lt (order (key x) (key y))) (is_before key order x ys) e in
      (less (order (key x) (key y)) here, before_all x ys there)

  all_before : (x : A) (xs : List A) → AllByRecursion (λ y. order (key x) (key y) ≡ Less) xs → is_before key order x xs ≡ true
  all_before x [] h = refl
  all_before x (y ∷ ys) h = and_from (is_lt (order (key x) (key y))) (is_before key order x ys) (ap is_lt h.0) (all_before x ys h.1)

  pub passes : (xs : List A) → Ascending key order xs → is_ascending key order xs ≡ true
  passes [] h = refl
  passes (x ∷ xs) h = and_from (is_before key order x xs) (is_ascending key order xs) (all_before x xs h.0) (passes xs h.1)

  pub passed : (xs : List A) → is_ascending key order xs ≡ true → Ascending key order xs
  passed [] e = tt
  passed (x ∷ xs) e =
      let (here, there) = and_parts (is_before key order x xs) (is_ascending key order xs) e in
      (before_all x xs here, passed xs there)

  module _ (laws : Laws order) (t zs : List A) where
    moves : (Ascending key order t → Ascending key order zs) → is_ascending key order t ≡ true → is_ascending key order zs ≡ true
    moves f e = passes zs (f (passed t e))

    pub entered_ascends : (meet : A → A → A) → Meets key order meet → (x : A) → zs ≡ entered key order meet x t → is_ascending key order t ≡ true → is_ascending key order zs ≡ true
    entered_ascends meet meets x e = moves (λ up. subst (Ascending key order) (sym e) ((tables_right A K key order laws).entered_ascending meet meets x t up))

    pub removed_ascends : (k : K) → zs ≡ removed key order k t → is_ascending key order t ≡ true → is_ascending key order zs ≡ true
    removed_ascends k e = moves (λ up. subst (Ascending key order) (sym e) ((tables_right A K key order laws).removed_ascending k t up))

    pub joined_ascends : (u : List A) → zs ≡ joined key order t u → is_ascending key order t ≡ true → is_ascending key order zs ≡ true
    joined_ascends u e = moves (λ up. subst (Ascending key order) (sym e) ((tables_right A K key order laws).joined_ascending t u up))

pub ascents_right : (A K : Type 0) → AscentsRight A K
ascents_right A K key order xs = (passed key order xs, passes key order xs)
