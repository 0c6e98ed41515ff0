-- Members of lists: the test `has`, what a filter keeps, and how many distinct members a list can have. Assumes nothing.
use Rattle.std.proofs.Common.{◌≡◌, suc, ◌≤◌, Bool, true, false, cond, ◌⊎◌, List, [], ◌∷◌, ◌++◌, map, length, filter, sym, refl, ap, ◌∙◌, inl, inr, ⊎_elim, true≢false, suc-le-suc, zero-le}
use Rattle.std.specs.Ordering.{is_eq}
use Rattle.std.specs.List.{AllByRecursion}
use Rattle.std.proofs.lemmas.Bool.{and_parts, and_from, or_cases, or_left, or_right}
use Rattle.rules.specs.Paths.{path_order}
use Rattle.rules.specs.Versions.{version_order}
use Rattle.rules.specs.Names.{ModuleVersion, same, has, ◌∈◌, Distinct}
use Rattle.rules.proofs.Order.{equal_from_test, test_from_equal, paths, versions}

pub module_same : (x y : ModuleVersion) → x.path ≡ y.path → x.version ≡ y.version → x ≡ y
module_same x y p v i = record { path = p i; version = v i }

-- the tests

pub same_is : (x y : ModuleVersion) → same x y ≡ true → x ≡ y
same_is x y t =
    let h = and_parts (is_eq (path_order x.path y.path)) (is_eq (version_order x.version y.version)) t in
    module_same x y (equal_from_test paths x.path y.path h.0) (equal_from_test versions x.version y.version h.1)

is_same : (x y : ModuleVersion) → x ≡ y → same x y ≡ true
is_same x y e = and_from _ _ (test_from_equal paths x.path y.path (ap (λ z. z.path) e)) (test_from_equal versions x.version y.version (ap (λ z. z.version) e))

pub member_from_has : (ys : List ModuleVersion) (x : ModuleVersion) → has ys x ≡ true → x ∈ ys
member_from_has [] x t = absurd (true≢false (sym t))
member_from_has (y ∷ ys) x t = ⊎_elim (λ h. inl (same_is x y h)) (λ h. inr (member_from_has ys x h)) (or_cases (same x y) (has ys x) t)

pub has_from_member : (ys : List ModuleVersion) (x : ModuleVersion) → x ∈ ys → has ys x ≡ true
has_from_member [] x h = absurd h
has_from_member (y ∷ ys) x (inl e) = or_left _ _ (is_same x y e)
has_from_member (y ∷ ys) x (inr h) = or_right _ _ (has_from_member ys x h)

pub no_member_from_has : (ys : List ModuleVersion) (x : ModuleVersion) → has ys x ≡ false → x ∈ ys → ⊥
no_member_from_has ys x t h = true≢false (sym (has_from_member ys x h) ∙ t)

-- lists

pub member_left : {A : Type 0} (xs ys : List A) (x : A) → x ∈ xs → x ∈ (xs ++ ys)
member_left [] ys x h = absurd h
member_left (y ∷ xs) ys x (inl e) = inl e
member_left (y ∷ xs) ys x (inr h) = inr (member_left xs ys x h)

pub member_right : {A : Type 0} (xs ys : List A) (x : A) → x ∈ ys → x ∈ (xs ++ ys)
member_right [] ys x h = h
member_right (y ∷ xs) ys x h = inr (member_right xs ys x h)

pub member_either : {A : Type 0} (xs ys : List A) (x : A) → x ∈ (xs ++ ys) → (x ∈ xs) ⊎ (x ∈ ys)
member_either [] ys x h = inr h
member_either (y ∷ xs) ys x (inl e) = inl (inl e)
member_either (y ∷ xs) ys x (inr h) = ⊎_elim (λ k. inl (inr k)) (λ k. inr k) (member_either xs ys x h)

pub member_map : {A B : Type 0} (f : A → B) (xs : List A) (x : A) → x ∈ xs → f x ∈ map f xs
member_map f [] x h = absurd h
member_map f (y ∷ ys) x (inl e) = inl (ap f e)
member_map f (y ∷ ys) x (inr h) = inr (member_map f ys x h)

pub all_member : {A : Type 0} (P : A → Type 0) (xs : List A) → AllByRecursion P xs → (x : A) → x ∈ xs → P x
all_member P [] h x k = absurd k
all_member P (y ∷ ys) h x (inl e) = rw e h.0
all_member P (y ∷ ys) h x (inr k) = all_member P ys h.1 x k

pub all_from_members : {A : Type 0} (P : A → Type 0) (xs : List A) → ((x : A) → x ∈ xs → P x) → AllByRecursion P xs
all_from_members P [] h = tt
all_from_members P (y ∷ ys) h = (h y (inl refl), all_from_members P ys (λ x k. h x (inr k)))

-- what a filter keeps

pub kept_member : {A : Type 0} (test : A → Bool) (xs : List A) (x : A) → x ∈ xs → test x ≡ true → x ∈ filter test xs
kept_member test [] x h t = absurd h
kept_member test (y ∷ ys) x h t = go (λ k. kept_member test ys x k t) (test y) refl h
  where
    go : (x ∈ ys → x ∈ filter test ys) → (b : Bool) → test y ≡ b → (x ≡ y) ⊎ (x ∈ ys) → x ∈ cond b (y ∷ filter test ys) (filter test ys)
    go below true e (inl p) = inl p
    go below true e (inr k) = inr (below k)
    go below false e (inl p) = absurd (true≢false (sym t ∙ ap test p ∙ e))
    go below false e (inr k) = below k

pub kept_was : {A : Type 0} (test : A → Bool) (xs : List A) (x : A) → x ∈ filter test xs → (x ∈ xs) × (test x ≡ true)
kept_was test [] x h = absurd h
kept_was test (y ∷ ys) x h = go (kept_was test ys x) (test y) refl h
  where
    go : (x ∈ filter test ys → (x ∈ ys) × (test x ≡ true)) → (b : Bool) → test y ≡ b → x ∈ cond b (y ∷ filter test ys) (filter test ys) → ((x ≡ y) ⊎ (x ∈ ys)) × (test x ≡ true)
    go below true e (inl p) = (inl p, ap test p ∙ e)
    go below true e (inr k) = (inr (below k).0, (below k).1)
    go below false e k = (inr (below k).0, (below k).1)

-- no member twice

pub distinct_push : {A : Type 0} (xs : List A) (x : A) → Distinct xs → (x ∈ xs → ⊥) → Distinct (xs ++ x ∷ [])
distinct_push [] x d n = (λ h. h, tt)
distinct_push (y ∷ ys) x d n =
    (λ h. ⊎_elim d.0 (⊎_elim (λ e. n (inl (sym e))) (λ z. z)) (member_either ys (x ∷ []) y h), distinct_push ys x d.1 (λ h. n (inr h)))

-- a list without one of its members
without : {A : Type 0} (x : A) (ys : List A) → x ∈ ys → (zs : List A) × (length ys ≡ suc (length zs)) × ((z : A) → z ∈ ys → (z ≡ x) ⊎ (z ∈ zs))
without x [] h = absurd h
without x (y ∷ ys) (inl e) = (ys, refl, λ z. ⊎_elim (λ p. inl (p ∙ sym e)) (λ k. inr k))
without x (y ∷ ys) (inr h) =
    let w = without x ys h in
    (y ∷ w.0, ap suc w.1, λ z. ⊎_elim (λ p. inr (inl p)) (λ k. ⊎_elim (λ p. inl p) (λ j. inr (inr j)) (w.2 z k)))

-- distinct members of a list are no more than it has
pub distinct_length : {A : Type 0} (xs ys : List A) → Distinct xs → ((x : A) → x ∈ xs → x ∈ ys) → length xs ≤ length ys
distinct_length [] ys d h = zero-le
distinct_length {A} (x ∷ xs) ys d h =
    let w = without x ys (h x (inl refl)) in
    let others : (z : A) → z ∈ xs → z ∈ w.0 = λ z k. ⊎_elim (λ e. absurd (d.0 (rw (← e) k))) (λ j. j) (w.2 z (h z (inr k))) in
    rw w.1 (suc-le-suc (distinct_length xs w.0 d.1 others))
