-- Tables that ascend by a key, whatever the items, the key and the order: what is looked up, entered, joined and removed. Assumes nothing.
use Rattle.std.proofs.Common.{◌≡◌, ℕ, suc, ◌+◌, ◌≤◌, Bool, true, false, cond, not, ◌⊎◌, ◌↔◌, List, [], ◌∷◌, ◌++◌, map, length, Some, None, filter, Option, Ordering, Less, Equal, Greater, sym, refl, ap, ◌∙◌, subst, ap₂, inl, inr, ⊎_elim, arith}
use Rattle.std.specs.Option.{option_map}
use Rattle.std.specs.Ordering.{is_eq, ordering_reverse}
use Rattle.std.specs.List.{AllByRecursion}
use Rattle.rules.proofs.Each.{each_weaker, each_filtered, each_mapped}
use Rattle.std.proofs.lemmas.List.{append_assoc}
use Rattle.std.proofs.lemmas.Bool.{not-true}
use Rattle.rules.specs.Orders.{Total}
use Rattle.rules.specs.Names.{◌∈◌, Distinct}
use Rattle.rules.specs.Tables.{keep, Ascending, lookup_by, lookup, entered_by, entered, entered_all, joined, removed_by, removed, Present, Absent, Meets, met, TablesRight}
use Rattle.rules.proofs.Order.{before_not_equal, Ways, ways, before, equal, after, apart_from_test, not_equal_test, test_from_equal, total_of}
use Rattle.rules.proofs.Members.{all_member, all_from_members, kept_member, kept_was, member_right, member_map}

-- a filter that all pass keeps all
pub kept_all : {A : Type 0} (test : A → Bool) (xs : List A) → AllByRecursion (λ x. test x ≡ true) xs → filter test xs ≡ xs
kept_all test [] h = refl
kept_all test (x ∷ xs) h = ap₂ (λ b ys. cond b (x ∷ ys) ys) h.0 (kept_all test xs h.1)

-- ---- whatever the order

module _ {A K : Type 0} (key : A → K) (order : K → K → Ordering) where
  -- a loop's step
  pub entered_all_push : (meet : A → A → A) (t xs : List A) (x : A) → entered_all key order meet t (xs ++ x ∷ []) ≡ entered key order meet x (entered_all key order meet t xs)
  entered_all_push meet t [] x = refl
  entered_all_push meet t (y ∷ ys) x = entered_all_push meet (entered key order meet y t) ys x

  pub entered_all_append : (meet : A → A → A) (t xs ys : List A) → entered_all key order meet t (xs ++ ys) ≡ entered_all key order meet (entered_all key order meet t xs) ys
  entered_all_append meet t [] ys = refl
  entered_all_append meet t (x ∷ xs) ys = entered_all_append meet (entered key order meet x t) xs ys

  -- a table is searched past the items that stand before a key

  pub lookup_past : (k : K) (front back : List A) → AllByRecursion (λ y. order k (key y) ≡ Greater) front → lookup key order k (front ++ back) ≡ lookup key order k back
  lookup_past k [] back h = refl
  lookup_past k (y ∷ front) back h = ap (λ r. lookup_by key order r y (lookup key order k (front ++ back))) h.0 ∙ lookup_past k front back h.1

  pub entered_past : (meet : A → A → A) (x : A) (front back : List A) → AllByRecursion (λ y. order (key x) (key y) ≡ Greater) front
      → entered key order meet x (front ++ back) ≡ front ++ entered key order meet x back
  entered_past meet x [] back h = refl
  entered_past meet x (y ∷ front) back h =
      ap (λ r. entered_by key order r meet x y (front ++ back) (entered key order meet x (front ++ back))) h.0
      ∙ ap (λ ys. y ∷ ys) (entered_past meet x front back h.1)

  pub removed_past : (k : K) (front back : List A) → AllByRecursion (λ y. order k (key y) ≡ Greater) front → removed key order k (front ++ back) ≡ front ++ removed key order k back
  removed_past k [] back h = refl
  removed_past k (y ∷ front) back h =
      ap (λ r. removed_by key order r y (front ++ back) (removed key order k (front ++ back))) h.0
      ∙ ap (λ ys. y ∷ ys) (removed_past k front back h.1)

  -- how long a table becomes

  pub entered_most : (meet : A → A → A) (x : A) (t : List A) → length (entered key order meet x t) ≤ suc (length t)
  entered_most meet x [] = omega arith
  entered_most meet x (y ∷ ys) = go (entered_most meet x ys) (order (key x) (key y))
    where
      go : length (entered key order meet x ys) ≤ suc (length ys) → (r : Ordering) → length (entered_by key order r meet x y ys (entered key order meet x ys)) ≤ suc (suc (length ys))
      go below Less = omega arith
      go below Equal = omega arith
      go below Greater = omega arith

  pub entered_least : (meet : A → A → A) (x : A) (t : List A) → length t ≤ length (entered key order meet x t)
  entered_least meet x [] = omega arith
  entered_least meet x (y ∷ ys) = go (entered_least meet x ys) (order (key x) (key y))
    where
      go : length ys ≤ length (entered key order meet x ys) → (r : Ordering) → suc (length ys) ≤ length (entered_by key order r meet x y ys (entered key order meet x ys))
      go below Less = omega arith
      go below Equal = omega arith
      go below Greater = omega arith

  pub entered_all_most : (meet : A → A → A) (t xs : List A) → length (entered_all key order meet t xs) ≤ length t + length xs
  entered_all_most meet t [] = omega arith
  entered_all_most meet t (x ∷ xs) = omega (arith, entered_all_most meet (entered key order meet x t) xs, entered_most meet x t)

  pub entered_all_least : (meet : A → A → A) (t xs : List A) → length t ≤ length (entered_all key order meet t xs)
  entered_all_least meet t [] = omega arith
  entered_all_least meet t (x ∷ xs) = omega (arith, entered_all_least meet (entered key order meet x t) xs, entered_least meet x t)

  pub removed_most : (k : K) (t : List A) → length (removed key order k t) ≤ length t
  removed_most k [] = omega arith
  removed_most k (y ∷ ys) = go (removed_most k ys) (order k (key y))
    where
      go : length (removed key order k ys) ≤ length ys → (r : Ordering) → length (removed_by key order r y ys (removed key order k ys)) ≤ suc (length ys)
      go below Less = omega arith
      go below Equal = omega arith
      go below Greater = omega arith

  -- a part of a table is one

  pub kept_ascending : (test : A → Bool) (t : List A) → Ascending key order t → Ascending key order (filter test t)
  kept_ascending test [] a = tt
  kept_ascending test (x ∷ xs) a = go (test x) (kept_ascending test xs a.1)
    where
      go : (b : Bool) → Ascending key order (filter test xs) → Ascending key order (cond b (x ∷ filter test xs) (filter test xs))
      go true below = (each_filtered _ test xs a.0, below)
      go false below = below

  pub back_ascending : (front back : List A) → Ascending key order (front ++ back) → Ascending key order back
  back_ascending [] back a = a
  back_ascending (x ∷ front) back a = back_ascending front back a.1

  -- what stands in front stands before all behind it
  pub front_before : (front : List A) (x : A) (back : List A) → Ascending key order (front ++ x ∷ back) → AllByRecursion (λ y. order (key y) (key x) ≡ Less) front
  front_before [] x back a = tt
  front_before (y ∷ front) x back a = (all_member _ (front ++ x ∷ back) a.0 x (member_right front (x ∷ back) x (inl refl)), front_before front x back a.1)

-- ---- by a total order of the keys

module _ {A K : Type 0} (key : A → K) (order : K → K → Ordering) (o : Total order) where
  abbrev Table : List A → Type 0
  Table = Ascending key order

  back_of : {j k : K} {r : Ordering} → order j k ≡ r → order k j ≡ ordering_reverse r
  back_of {j} {k} e = o.back j k ∙ ap ordering_reverse e

  -- what stands before the head of a table stands before all of it
  pub before_all : (k : K) (y : A) (ys : List A) → Table (y ∷ ys) → order k (key y) ≡ Less → (z : A) → z ∈ (y ∷ ys) → order k (key z) ≡ Less
  before_all k y ys a e z (inl q) = rw q e
  before_all k y ys a e z (inr h) = o.on k (key y) (key z) e (all_member _ ys a.0 z h)

  absent_before : (k : K) (y : A) (ys : List A) → Table (y ∷ ys) → order k (key y) ≡ Less → Absent key order k (y ∷ ys)
  absent_before k y ys a e z h q = before_not_equal o k (key z) (before_all k y ys a e z h) (sym q)

  -- the head of a table is at a key of its own
  absent_head : (y : A) (ys : List A) → Table (y ∷ ys) → Absent key order (key y) ys
  absent_head y ys a z h q = before_not_equal o (key y) (key z) (all_member _ ys a.0 z h) (sym q)

  -- and so it is at no key that stands behind it
  not_head : (k : K) (y : A) → order k (key y) ≡ Greater → key y ≡ k → ⊥
  not_head k y e = before_not_equal o (key y) k (back_of e)

  -- Each item stands before the next: so it does before all that follow.
  abbrev pub Steps : List A → Type 0
  Steps [] = Unit {0}
  Steps (x ∷ []) = Unit {0}
  Steps (x ∷ y ∷ ys) = (order (key x) (key y) ≡ Less) × Steps (y ∷ ys)

  pub ascending_steps : (t : List A) → Steps t → Table t
  ascending_steps [] h = tt
  ascending_steps (x ∷ []) h = (tt, tt)
  ascending_steps (x ∷ y ∷ ys) h = let a = ascending_steps (y ∷ ys) h.1 in (all_from_members _ (y ∷ ys) (before_all (key x) y ys a h.0), a)

  -- one item a key
  pub one_a_key : (t : List A) → Table t → (y z : A) → y ∈ t → z ∈ t → key y ≡ key z → y ≡ z
  one_a_key [] a y z h k p = absurd h
  one_a_key (x ∷ xs) a y z (inl e) (inl f) p = e ∙ sym f
  one_a_key (x ∷ xs) a y z (inl e) (inr k) p = absurd (absent_head x xs a z k (sym p ∙ ap key e))
  one_a_key (x ∷ xs) a y z (inr h) (inl f) p = absurd (absent_head x xs a y h (p ∙ ap key f))
  one_a_key (x ∷ xs) a y z (inr h) (inr k) p = one_a_key xs a.1 y z h k p

  pub ascending_distinct : (t : List A) → Table t → Distinct t
  ascending_distinct [] a = tt
  ascending_distinct (x ∷ xs) a = (λ h. absent_head x xs a x h refl, ascending_distinct xs a.1)

  pub same_members : (t u : List A) → Table t → Table u → ((z : A) → z ∈ t → z ∈ u) → ((z : A) → z ∈ u → z ∈ t) → t ≡ u
  same_members [] [] a b f g = refl
  same_members [] (y ∷ ys) a b f g = absurd (g y (inl refl))
  same_members (x ∷ xs) [] a b f g = absurd (f x (inl refl))
  same_members (x ∷ xs) (y ∷ ys) a b f g =
      ap₂ (λ z zs. z ∷ zs) heads
      (same_members xs ys a.1 b.1
      (λ z k. ⊎_elim (λ e. absurd (absent_head x xs a z k (ap key (e ∙ sym heads)))) (λ j. j) (f z (inr k)))
      (λ z k. ⊎_elim (λ e. absurd (absent_head y ys b z k (ap key (e ∙ heads)))) (λ j. j) (g z (inr k))))
    where
      cross : x ∈ ys → y ∈ xs → ⊥
      cross h k =
          before_not_equal o (key x) (key x)
          (o.on (key x) (key y) (key x) (all_member _ xs a.0 y k) (all_member _ ys b.0 x h)) refl

      heads : x ≡ y
      heads = ⊎_elim (λ e. e) (λ h. ⊎_elim (λ e. sym e) (λ k. absurd (cross h k)) (g y (inl refl))) (f x (inl refl))

  -- lookup

  pub lookup_there : (k : K) (t : List A) (y : A) → lookup key order k t ≡ Some y → (y ∈ t) × (key y ≡ k)
  lookup_there k [] y e = let z : ◌≡◌ {A = ℕ} 0 1 = cc in absurd (omega arith)
  lookup_there k (w ∷ t) y e = go (lookup_there k t y) (order k (key w)) refl e
    where
      go : (lookup key order k t ≡ Some y → (y ∈ t) × (key y ≡ k)) → (r : Ordering) → order k (key w) ≡ r → lookup_by key order r w (lookup key order k t) ≡ Some y
          → ((y ≡ w) ⊎ (y ∈ t)) × (key y ≡ k)
      go below Less f q = let z : ◌≡◌ {A = ℕ} 0 1 = cc in absurd (omega arith)
      go below Equal f q = let same : w ≡ y = cc in (inl (sym same), ap key (sym same) ∙ sym (o.apart k (key w) f))
      go below Greater f q = let (h, p) = below q in (inr h, p)

  pub lookup_finds : (k : K) (t : List A) (y : A) → Table t → y ∈ t → key y ≡ k → lookup key order k t ≡ Some y
  lookup_finds k [] y a h p = absurd h
  lookup_finds k (w ∷ t) y a h p = go (λ j. lookup_finds k t y a.1 j p) (order k (key w)) refl h
    where
      go : (y ∈ t → lookup key order k t ≡ Some y) → (r : Ordering) → order k (key w) ≡ r → (y ≡ w) ⊎ (y ∈ t) → lookup_by key order r w (lookup key order k t) ≡ Some y
      go below Less f j = absurd (absent_before k w t a f y j p)
      go below Equal f j = ap Some (one_a_key (w ∷ t) a w y (inl refl) j (sym (o.apart k (key w) f) ∙ sym p))
      go below Greater f (inl q) = absurd (not_head k w f (ap key (sym q) ∙ p))
      go below Greater f (inr j) = below j

  pub lookup_some : (k : K) (t : List A) → Table t → (y : A) → (lookup key order k t ≡ Some y) ↔ ((y ∈ t) × (key y ≡ k))
  lookup_some k t a y = (lookup_there k t y, λ (h, p). lookup_finds k t y a h p)

  -- what is absent is found in no list at all, and what is not found in a table is absent
  pub lookup_absent : (k : K) (t : List A) → Absent key order k t → lookup key order k t ≡ None
  lookup_absent k t none = go (lookup key order k t) refl
    where
      go : (r : Option A) → lookup key order k t ≡ r → r ≡ None
      go None e = refl
      go (Some y) e = let (h, p) = lookup_there k t y e in absurd (none y h p)

  pub lookup_misses : (k : K) (t : List A) → Table t → lookup key order k t ≡ None → Absent key order k t
  lookup_misses k t a e y h p =
      let f = lookup_finds k t y a h p in
      let z : ◌≡◌ {A = ℕ} 0 1 = cc in
      omega arith

  pub lookup_none : (k : K) (t : List A) → Table t → (lookup key order k t ≡ None) ↔ Absent key order k t
  lookup_none k t a = (lookup_misses k t a, lookup_absent k t)

  -- a key is at hand, or not
  pub present_or_absent : (k : K) (t : List A) → Table t → Present key order k t ⊎ Absent key order k t
  present_or_absent k t a = go (lookup key order k t) refl
    where
      go : (r : Option A) → lookup key order k t ≡ r → Present key order k t ⊎ Absent key order k t
      go None e = inr (lookup_misses k t a e)
      go (Some y) e = let (h, p) = lookup_there k t y e in inl (y, h, p)

  -- entered

  module _ (meet : A → A → A) where
    -- what x becomes
    abbrev becomes : A → List A → A
    becomes x t = met key order meet x (lookup key order (key x) t)

    pub entered_members : (x : A) (t : List A) → Table t → (z : A) → (z ∈ entered key order meet x t) ↔ ((z ≡ becomes x t) ⊎ ((z ∈ t) × (key z ≡ key x → ⊥)))
    entered_members x [] a z = (⊎_elim (λ e. inl e) (λ h. absurd h), ⊎_elim (λ e. inl e) (λ h. absurd h.0))
    entered_members x (y ∷ ys) a z = go (entered_members x ys a.1 z) (order (key x) (key y)) refl
      where
        go : ((z ∈ entered key order meet x ys) ↔ ((z ≡ becomes x ys) ⊎ ((z ∈ ys) × (key z ≡ key x → ⊥)))) → (r : Ordering) → order (key x) (key y) ≡ r
            → (z ∈ entered_by key order r meet x y ys (entered key order meet x ys))
            ↔ ((z ≡ met key order meet x (lookup_by key order r y (lookup key order (key x) ys))) ⊎ (((z ≡ y) ⊎ (z ∈ ys)) × (key z ≡ key x → ⊥)))
        go below Less e = (⊎_elim (λ q. inl q) (λ h. inr (h, absent_before (key x) y ys a e z h)), ⊎_elim (λ q. inl q) (λ h. inr h.0))
        go below Equal e =
            let p = o.apart (key x) (key y) e in (
              ⊎_elim (λ q. inl q) (λ h. inr (inr h, λ k. absent_head y ys a z h (k ∙ p))),
              ⊎_elim (λ q. inl q) (λ (h, other). ⊎_elim (λ q. absurd (other (ap key q ∙ sym p))) (λ k. inr k) h),
            )
        go below Greater e = (
          ⊎_elim (λ q. inr (inl q, λ k. not_head (key x) y e (ap key (sym q) ∙ k))) (λ h. ⊎_elim (λ q. inl q) (λ (k, other). inr (inr k, other)) (below.0 h)),
          ⊎_elim (λ q. inr (below.1 (inl q))) (λ (h, other). ⊎_elim (λ q. inl q) (λ k. inr (below.1 (inr (k, other)))) h),
        )

    -- whatever the list, what is entered was there, or came of x
    pub entered_was : (x : A) (t : List A) (z : A) → z ∈ entered key order meet x t → (z ≡ x) ⊎ ((z ∈ t) ⊎ ((y : A) × (y ∈ t) × (key x ≡ key y) × (z ≡ meet x y)))
    entered_was x [] z h = ⊎_elim (λ e. inl e) (λ k. absurd k) h
    entered_was x (y ∷ ys) z h = go (entered_was x ys z) (order (key x) (key y)) refl h
      where
        go : (z ∈ entered key order meet x ys → (z ≡ x) ⊎ ((z ∈ ys) ⊎ ((w : A) × (w ∈ ys) × (key x ≡ key w) × (z ≡ meet x w)))) → (r : Ordering) → order (key x) (key y) ≡ r
            → z ∈ entered_by key order r meet x y ys (entered key order meet x ys) → (z ≡ x) ⊎ (((z ≡ y) ⊎ (z ∈ ys)) ⊎ ((w : A) × ((w ≡ y) ⊎ (w ∈ ys)) × (key x ≡ key w) × (z ≡ meet x w)))
        go below Less e (inl q) = inl q
        go below Less e (inr k) = inr (inl k)
        go below Equal e (inl q) = inr (inr (y, inl refl, o.apart (key x) (key y) e, q))
        go below Equal e (inr k) = inr (inl (inr k))
        go below Greater e (inl q) = inr (inl (inl q))
        go below Greater e (inr k) = ⊎_elim (λ q. inl q) (λ j. inr (⊎_elim (λ i. inl (inr i)) (λ (w, i, p, q). inr (w, inr i, p, q)) j)) (below k)

    -- where what two become is one of the two, nothing else is entered
    module _ (either : (x y : A) → (meet x y ≡ x) ⊎ (meet x y ≡ y)) where
      pub entered_either : (x : A) (t : List A) (z : A) → z ∈ entered key order meet x t → (z ≡ x) ⊎ (z ∈ t)
      entered_either x t z h =
          ⊎_elim (λ e. inl e) (⊎_elim (λ k. inr k) (λ (y, k, p, q). ⊎_elim (λ e. inl (q ∙ e)) (λ e. inr (subst (λ w. w ∈ t) (sym (q ∙ e)) k)) (either x y))) (entered_was x t z h)

      pub entered_all_either : (t xs : List A) (z : A) → z ∈ entered_all key order meet t xs → (z ∈ t) ⊎ (z ∈ xs)
      entered_all_either t [] z h = inl h
      entered_all_either t (x ∷ xs) z h =
          ⊎_elim (λ k. ⊎_elim (λ e. inr (inl e)) (λ j. inl j) (entered_either x t z k)) (λ k. inr (inr k)) (entered_all_either (entered key order meet x t) xs z h)

    pub entered_new : (x : A) (t : List A) → Absent key order (key x) t → length (entered key order meet x t) ≡ suc (length t)
    entered_new x [] none = refl
    entered_new x (y ∷ ys) none = go (entered_new x ys (λ z h. none z (inr h))) (order (key x) (key y)) refl
      where
        go : length (entered key order meet x ys) ≡ suc (length ys) → (r : Ordering) → order (key x) (key y) ≡ r → length (entered_by key order r meet x y ys (entered key order meet x ys)) ≡ suc (suc (length ys))
        go below Less e = refl
        go below Equal e = absurd (none y (inl refl) (sym (o.apart (key x) (key y) e)))
        go below Greater e = ap suc below

    pub entered_old : (x : A) (t : List A) → Table t → Present key order (key x) t → length (entered key order meet x t) ≡ length t
    entered_old x [] a (y, h, p) = absurd h
    entered_old x (w ∷ ys) a (y, h, p) = go (λ k. entered_old x ys a.1 (y, k, p)) (order (key x) (key w)) refl h
      where
        go : (y ∈ ys → length (entered key order meet x ys) ≡ length ys) → (r : Ordering) → order (key x) (key w) ≡ r → (y ≡ w) ⊎ (y ∈ ys)
            → length (entered_by key order r meet x w ys (entered key order meet x ys)) ≡ suc (length ys)
        go below Less e k = absurd (absent_before (key x) w ys a e y k p)
        go below Equal e k = refl
        go below Greater e (inl q) = absurd (not_head (key x) w e (ap key (sym q) ∙ p))
        go below Greater e (inr k) = ap suc (below k)

    -- behind all items it is appended
    pub entered_last : (x : A) (t : List A) → AllByRecursion (λ y. order (key y) (key x) ≡ Less) t → entered key order meet x t ≡ t ++ x ∷ []
    entered_last x [] h = refl
    entered_last x (y ∷ ys) h =
        ap (λ r. entered_by key order r meet x y ys (entered key order meet x ys)) (back_of h.0) ∙ ap (λ zs. y ∷ zs) (entered_last x ys h.1)

    -- before all items it is put in front
    pub entered_first : (x : A) (t : List A) → AllByRecursion (λ y. order (key x) (key y) ≡ Less) t → entered key order meet x t ≡ x ∷ t
    entered_first x [] h = refl
    entered_first x (y ∷ ys) h = ap (λ r. entered_by key order r meet x y ys (entered key order meet x ys)) h.0

    pub entered_all_behind : (t xs : List A) → Table (t ++ xs) → entered_all key order meet t xs ≡ t ++ xs
    entered_all_behind t [] a = sym (append_nothing t)
      where
        append_nothing : (ys : List A) → ys ++ [] ≡ ys
        append_nothing [] = refl
        append_nothing (y ∷ ys) = ap (λ zs. y ∷ zs) (append_nothing ys)
    entered_all_behind t (x ∷ xs) a =
        ap (λ u. entered_all key order meet u xs) (entered_last x t (front_before key order t x xs a))
        ∙ entered_all_behind (t ++ x ∷ []) xs (rw append_assoc a)
        ∙ append_assoc t (x ∷ []) xs

    -- a table entered into nothing is itself
    pub entered_all_nothing : (t : List A) → Table t → entered_all key order meet [] t ≡ t
    entered_all_nothing t = entered_all_behind [] t

    module _ (meets : Meets key order meet) where
      pub becomes_key : (x : A) (t : List A) → key (becomes x t) ≡ key x
      becomes_key x t = go (lookup key order (key x) t) refl
        where
          go : (r : Option A) → lookup key order (key x) t ≡ r → key (met key order meet x r) ≡ key x
          go None e = refl
          go (Some y) e = let (h, p) = lookup_there (key x) t y e in meets x y (sym p) ∙ p

      pub entered_ascending : (x : A) (t : List A) → Table t → Table (entered key order meet x t)
      entered_ascending x [] a = (tt, tt)
      entered_ascending x (y ∷ ys) a = go (entered_ascending x ys a.1) (order (key x) (key y)) refl
        where
          go : Table (entered key order meet x ys) → (r : Ordering) → order (key x) (key y) ≡ r → Table (entered_by key order r meet x y ys (entered key order meet x ys))
          go below Less e = (all_from_members _ (y ∷ ys) (before_all (key x) y ys a e), a)
          go below Equal e = (rw (meets x y (o.apart (key x) (key y) e)) a.0, a.1)
          go below Greater e = (
            all_from_members _ (entered key order meet x ys)
                (λ z h. ⊎_elim
                (λ q. subst (λ k. order (key y) k ≡ Less) (sym (ap key q ∙ becomes_key x ys)) (back_of e))
                (λ k. all_member (λ w. order (key y) (key w) ≡ Less) ys a.0 z k.0)
                ((entered_members x ys a.1 z).0 h)),
            below,
          )

      pub entered_all_ascending : (t xs : List A) → Table t → Table (entered_all key order meet t xs)
      entered_all_ascending t [] a = a
      entered_all_ascending t (x ∷ xs) a = entered_all_ascending (entered key order meet x t) xs (entered_ascending x t a)

  -- joined: where a key is there, its item stays

  kept_meets : Meets key order keep
  kept_meets x y p = refl

  pub entered_keep_ascending : (x : A) (t : List A) → Table t → Table (entered key order keep x t)
  entered_keep_ascending = entered_ascending keep kept_meets

  pub entered_keep_members : (x : A) (t : List A) → Table t → (z : A) → (z ∈ entered key order keep x t) ↔ ((z ∈ t) ⊎ ((z ≡ x) × Absent key order (key x) t))
  entered_keep_members x t a z = (λ h. ⊎_elim (was (lookup key order (key x) t) refl) (λ k. inl k.0) (to h), ⊎_elim stays (λ (e, none). from (inl (e ∙ sym (ap (met key order keep x) (lookup_absent (key x) t none))))))
    where
      to : z ∈ entered key order keep x t → (z ≡ becomes keep x t) ⊎ ((z ∈ t) × (key z ≡ key x → ⊥))
      to = (entered_members keep x t a z).0

      from : (z ≡ becomes keep x t) ⊎ ((z ∈ t) × (key z ≡ key x → ⊥)) → z ∈ entered key order keep x t
      from = (entered_members keep x t a z).1

      was : (r : Option A) → lookup key order (key x) t ≡ r → z ≡ met key order keep x r → (z ∈ t) ⊎ ((z ≡ x) × Absent key order (key x) t)
      was None e q = inr (q, lookup_misses (key x) t a e)
      was (Some y) e q = inl (subst (λ w. w ∈ t) (sym q) (lookup_there (key x) t y e).0)

      stays : z ∈ t → z ∈ entered key order keep x t
      stays h = go (ways o (key z) (key x))
        where
          go : Ways order (key z) (key x) → z ∈ entered key order keep x t
          go (before p) = from (inr (h, before_not_equal o (key z) (key x) p))
          go (equal p) = from (inl (sym (ap (met key order keep x) (lookup_finds (key x) t z a h p))))
          go (after p) = from (inr (h, λ q. before_not_equal o (key x) (key z) p (sym q)))

  pub joined_ascending : (t u : List A) → Table t → Table (joined key order t u)
  joined_ascending = entered_all_ascending keep kept_meets

  pub joined_members : (t u : List A) → Table t → Table u → (z : A) → (z ∈ joined key order t u) ↔ ((z ∈ t) ⊎ ((z ∈ u) × Absent key order (key z) t))
  joined_members t [] a b z = (λ h. inl h, ⊎_elim (λ h. h) (λ h. absurd h.0))
  joined_members t (x ∷ xs) a b z =
      let below = joined_members (entered key order keep x t) xs (entered_keep_ascending x t a) b.1 z in
      (λ h. to (below.0 h), λ h. below.1 (from h))
    where
      to : (z ∈ entered key order keep x t) ⊎ ((z ∈ xs) × Absent key order (key z) (entered key order keep x t)) → (z ∈ t) ⊎ (((z ≡ x) ⊎ (z ∈ xs)) × Absent key order (key z) t)
      to (inl h) = ⊎_elim (λ k. inl k) (λ (e, none). inr (inl e, subst (λ w. Absent key order (key w) t) (sym e) none)) ((entered_keep_members x t a z).0 h)
      to (inr (h, none)) = inr (inr h, λ y k. none y ((entered_keep_members x t a y).1 (inl k)))

      from : (z ∈ t) ⊎ (((z ≡ x) ⊎ (z ∈ xs)) × Absent key order (key z) t) → (z ∈ entered key order keep x t) ⊎ ((z ∈ xs) × Absent key order (key z) (entered key order keep x t))
      from (inl h) = inl ((entered_keep_members x t a z).1 (inl h))
      from (inr (inl e, none)) = inl ((entered_keep_members x t a z).1 (inr (e, subst (λ w. Absent key order (key w) t) e none)))
      from (inr (inr h, none)) = inr (h, λ y k q. ⊎_elim (λ j. none y j q) (λ (e, new). absent_head x xs b z h (sym q ∙ ap key e)) ((entered_keep_members x t a y).0 k))

  -- where an item is told by its key, as where it is its own

  module _ (told : (x y : A) → key x ≡ key y → x ≡ y) where
    pub entered_told : (x : A) (t : List A) → Table t → (z : A) → (z ∈ entered key order keep x t) ↔ ((z ≡ x) ⊎ (z ∈ t))
    entered_told x t a z = (
      λ h. ⊎_elim (λ k. inr k) (λ k. inl k.0) ((entered_keep_members x t a z).0 h),
      ⊎_elim
          (λ e. ⊎_elim (λ (y, h, p). (entered_keep_members x t a z).1 (inl (subst (λ w. w ∈ t) (told y x p ∙ sym e) h))) (λ none. (entered_keep_members x t a z).1 (inr (e, none))) (present_or_absent (key x) t a))
          (λ h. (entered_keep_members x t a z).1 (inl h)),
    )

    pub entered_all_told : (t xs : List A) → Table t → (z : A) → (z ∈ entered_all key order keep t xs) ↔ ((z ∈ t) ⊎ (z ∈ xs))
    entered_all_told t [] a z = (λ h. inl h, ⊎_elim (λ h. h) (λ h. absurd h))
    entered_all_told t (x ∷ xs) a z =
        let (to, from) = entered_all_told (entered key order keep x t) xs (entered_keep_ascending x t a) z in
        let (was, holds) = entered_told x t a z in (
          (λ h. ⊎_elim (λ k. ⊎_elim (λ e. inr (inl e)) (λ j. inl j) (was k)) (λ k. inr (inr k)) (to h)),
          ⊎_elim (λ h. from (inl (holds (inr h)))) (⊎_elim (λ e. from (inl (holds (inl e)))) (λ h. from (inr h))),
        )

  -- removed

  pub removed_kept : (k : K) (t : List A) → Table t → removed key order k t ≡ filter (λ y. not (is_eq (order (key y) k))) t
  removed_kept k [] a = refl
  removed_kept k (y ∷ ys) a = go (removed_kept k ys a.1) (order k (key y)) refl
    where
      keeps : (z : A) → (key z ≡ k → ⊥) → not (is_eq (order (key z) k)) ≡ true
      keeps z n = ap not (not_equal_test o (key z) k n)

      go : removed key order k ys ≡ filter (λ z. not (is_eq (order (key z) k))) ys → (r : Ordering) → order k (key y) ≡ r
          → removed_by key order r y ys (removed key order k ys) ≡ cond (not (is_eq (order (key y) k))) (y ∷ filter (λ z. not (is_eq (order (key z) k))) ys) (filter (λ z. not (is_eq (order (key z) k))) ys)
      go below Less e = sym (kept_all (λ z. not (is_eq (order (key z) k))) (y ∷ ys) (all_from_members _ (y ∷ ys) (λ z h. keeps z (absent_before k y ys a e z h))))
      go below Equal e =
          let p = o.apart k (key y) e in
          sym (ap (λ b. cond (not b) (y ∷ filter (λ z. not (is_eq (order (key z) k))) ys) (filter (λ z. not (is_eq (order (key z) k))) ys)) (test_from_equal o (key y) k (sym p))
          ∙ kept_all (λ z. not (is_eq (order (key z) k))) ys (all_from_members _ ys (λ z h. keeps z (λ q. absent_head y ys a z h (q ∙ p)))))
      go below Greater e =
          ap (λ zs. y ∷ zs) below
          ∙ ap (λ b. cond b (y ∷ filter (λ z. not (is_eq (order (key z) k))) ys) (filter (λ z. not (is_eq (order (key z) k))) ys)) (sym (keeps y (not_head k y e)))

  pub removed_ascending : (k : K) (t : List A) → Table t → Table (removed key order k t)
  removed_ascending k t a = subst Table (sym (removed_kept k t a)) (kept_ascending key order (λ y. not (is_eq (order (key y) k))) t a)

  pub removed_members : (k : K) (t : List A) → Table t → (z : A) → (z ∈ removed key order k t) ↔ ((z ∈ t) × (key z ≡ k → ⊥))
  removed_members k t a z = (
    (λ h. let (j, e) = kept_was (λ y. not (is_eq (order (key y) k))) t z (subst (λ u. z ∈ u) (removed_kept k t a) h) in (j, apart_from_test o (key z) k (not-true _ e))),
    (λ (h, other). subst (λ u. z ∈ u) (sym (removed_kept k t a)) (kept_member (λ y. not (is_eq (order (key y) k))) t z h (ap not (not_equal_test o (key z) k other)))),
  )

  pub removed_new : (k : K) (t : List A) → Absent key order k t → removed key order k t ≡ t
  removed_new k [] none = refl
  removed_new k (y ∷ ys) none = go (removed_new k ys (λ z h. none z (inr h))) (order k (key y)) refl
    where
      go : removed key order k ys ≡ ys → (r : Ordering) → order k (key y) ≡ r → removed_by key order r y ys (removed key order k ys) ≡ y ∷ ys
      go below Less e = refl
      go below Equal e = absurd (none y (inl refl) (sym (o.apart k (key y) e)))
      go below Greater e = ap (λ zs. y ∷ zs) below

  pub removed_old : (k : K) (t : List A) → Table t → Present key order k t → suc (length (removed key order k t)) ≡ length t
  removed_old k [] a (y, h, p) = absurd h
  removed_old k (w ∷ ys) a (y, h, p) = go (λ j. removed_old k ys a.1 (y, j, p)) (order k (key w)) refl h
    where
      go : (y ∈ ys → suc (length (removed key order k ys)) ≡ length ys) → (r : Ordering) → order k (key w) ≡ r → (y ≡ w) ⊎ (y ∈ ys)
          → suc (length (removed_by key order r w ys (removed key order k ys))) ≡ suc (length ys)
      go below Less e j = absurd (absent_before k w ys a e y j p)
      go below Equal e j = refl
      go below Greater e (inl q) = absurd (not_head k w e (ap key (sym q) ∙ p))
      go below Greater e (inr j) = ap suc (below j)

-- ---- a table seen through a map that keeps the order, as from rows of an array to what they mean

module _ {A B K L : Type 0} (key : A → K) (order : K → K → Ordering) (name : B → L) (by : L → L → Ordering) (f : A → B) where
  -- the map tells how a key stands to an item
  abbrev pub Agrees : K → L → Type 0
  Agrees k l = (a : A) → order k (key a) ≡ by l (name (f a))

  pub map_lookup : (k : K) (l : L) → Agrees k l → (t : List A) → option_map f (lookup key order k t) ≡ lookup name by l (map f t)
  map_lookup k l same [] = refl
  map_lookup k l same (y ∷ ys) = rw (← (same y)) (go (order k (key y)) (map_lookup k l same ys))
    where
      go : (r : Ordering) → option_map f (lookup key order k ys) ≡ lookup name by l (map f ys) → option_map f (lookup_by key order r y (lookup key order k ys)) ≡ lookup_by name by r (f y) (lookup name by l (map f ys))
      go Less below = refl
      go Equal below = refl
      go Greater below = below

  pub map_removed : (k : K) (l : L) → Agrees k l → (t : List A) → map f (removed key order k t) ≡ removed name by l (map f t)
  map_removed k l same [] = refl
  map_removed k l same (y ∷ ys) = rw (← (same y)) (go (order k (key y)) (map_removed k l same ys))
    where
      go : (r : Ordering) → map f (removed key order k ys) ≡ removed name by l (map f ys) → map f (removed_by key order r y ys (removed key order k ys)) ≡ removed_by name by r (f y) (map f ys) (removed name by l (map f ys))
      go Less below = refl
      go Equal below = refl
      go Greater below = ap (λ zs. f y ∷ zs) below

  module _ (same : (a b : A) → order (key a) (key b) ≡ by (name (f a)) (name (f b))) where
    pub map_ascending : (t : List A) → Ascending key order t → Ascending name by (map f t)
    map_ascending [] a = tt
    map_ascending (x ∷ xs) a = (each_mapped _ f xs (each_weaker _ _ (λ y h. sym (same x y) ∙ h) xs a.0), map_ascending xs a.1)

    pub map_ascending_back : (t : List A) → Ascending name by (map f t) → Ascending key order t
    map_ascending_back [] a = tt
    map_ascending_back (x ∷ xs) a = (all_from_members _ xs (λ y h. same x y ∙ all_member (λ z. by (name (f x)) (name z) ≡ Less) (map f xs) a.0 (f y) (member_map f xs y h)), map_ascending_back xs a.1)

    module _ (meet : A → A → A) (join : B → B → B) (meets : (a b : A) → f (meet a b) ≡ join (f a) (f b)) where
      pub map_entered : (x : A) (t : List A) → map f (entered key order meet x t) ≡ entered name by join (f x) (map f t)
      map_entered x [] = refl
      map_entered x (y ∷ ys) = rw (← (same x y)) (go (order (key x) (key y)) (map_entered x ys))
        where
          go : (r : Ordering) → map f (entered key order meet x ys) ≡ entered name by join (f x) (map f ys)
              → map f (entered_by key order r meet x y ys (entered key order meet x ys)) ≡ entered_by name by r join (f x) (f y) (map f ys) (entered name by join (f x) (map f ys))
          go Less below = refl
          go Equal below = ap (λ z. z ∷ map f ys) (meets x y)
          go Greater below = ap (λ zs. f y ∷ zs) below

      pub map_entered_all : (t xs : List A) → map f (entered_all key order meet t xs) ≡ entered_all name by join (map f t) (map f xs)
      map_entered_all t [] = refl
      map_entered_all t (x ∷ xs) = map_entered_all (entered key order meet x t) xs ∙ ap (λ u. entered_all name by join u (map f xs)) (map_entered x t)

    pub map_joined : (t u : List A) → map f (joined key order t u) ≡ joined name by (map f t) (map f u)
    map_joined = map_entered_all keep keep (λ a b. refl)

-- ---- the laws

pub tables_right : (A K : Type 0) → TablesRight A K
tables_right A K key order laws = let o = total_of laws in record {
  same = λ t u a b both. same_members key order o t u a b (λ z. (both z).0) (λ z. (both z).1);
  finds = lookup_some key order o;
  misses = lookup_none key order o;
  entered_ascending = entered_ascending key order o;
  entered_members = entered_members key order o;
  entered_new = λ meet x t a. entered_new key order o meet x t;
  entered_old = entered_old key order o;
  joined_ascending = joined_ascending key order o;
  joined_members = joined_members key order o;
  joined_least = entered_all_least key order keep;
  joined_most = entered_all_most key order keep;
  joined_nothing = entered_all_nothing key order o keep;
  removed_ascending = removed_ascending key order o;
  removed_members = removed_members key order o;
  removed_kept = removed_kept key order o;
  removed_old = removed_old key order o;
  removed_new = λ k t a. removed_new key order o k t;
}
