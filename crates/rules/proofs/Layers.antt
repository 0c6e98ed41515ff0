-- The layers over lawful meanings, what they answer, and piles of them. Assumes nothing.
use Rattle.std.proofs.Common.{◌≡◌, ℕ, ◌+◌, ◌≤◌, Bool, true, false, cond, not, ltb, ◌⊎◌, ◌↔◌, List, [], ◌∷◌, length, filter, sym, refl, ap, ◌∙◌, subst, inl, inr, ⊎_elim, true≢false, arith}
use native.Mathlib.Nat.{min-le_left, min-eq_left, min-eq_right}
use Rattle.std.specs.List.{AllByRecursion}
use Rattle.std.proofs.lemmas.List.Filters.{length-filter_both}
use Rattle.std.proofs.lemmas.Bool.{ltb-true, ltb-false, lt-ltb, le-ltb, cases_Bool, not-true, not-false}
use Rattle.rules.specs.Orders.{Bytes}
use Rattle.rules.specs.Versions.{version_order}
use Rattle.rules.specs.Names.{ModuleVersion, has, at, ◌∈◌}
use Rattle.rules.specs.Rows.{own, joined_versions}
use Rattle.rules.specs.Causes.{Cause, too_long, bad_byte, wrong_shape, bad_path, bad_version, module_line, row_too_many, missing, damaged_buffer, too_many_to_list, slice_too_short, too_many_module_versions, table_full, nothing_to_change, is_missing, Fault}
use Rattle.rules.specs.Sources.{Answer, found, fault, Meaning, Lawful, narrowed, deeper, passed_up, missing_here, included, excluding, or_else, both_listed, over_64, at_most_64, falling_back}
use Rattle.rules.specs.Layers.{DeeperBy, ComesUp, Without, nothing, left_out, stays, MissingIn, Exactly, ExcludeAnswers, FallbackAnswers, ExcludeOverFallback, FallbackOverExcludes, source, exclude_layer, fallback_layer, meaning_of, LayerRight, FallbackRight, TwoLayersRight, PileRight}
use Rattle.rules.proofs.Order.{versions}
use Rattle.rules.proofs.Members.{kept_member, kept_was, all_member, all_from_members, member_from_has, has_from_member, no_member_from_has}
use Rattle.rules.proofs.Tables.{kept_ascending, joined_ascending, entered_all_told}

-- answers

pub narrowed_found : {A B : Type 0} (f : A → B) (a : Answer A) (y : B) → narrowed f a ≡ found y → (x : A) × (a ≡ found x) × (y ≡ f x)
narrowed_found f (fault g) y e = let z : ◌≡◌ {A = ℕ} 0 1 = cc in absurd (omega arith)
narrowed_found f (found x) y e = (x, refl, cc)

passed_found : {A : Type 0} (a : Answer A) (x : A) → passed_up a ≡ found x → a ≡ found x
passed_found (fault g) x e = let z : ◌≡◌ {A = ℕ} 0 1 = cc in absurd (omega arith)
passed_found (found y) x e = e

deeper_255 : (f : Fault) → (deeper f).depth ≤ 255
deeper_255 f = min-le_left 255 (f.depth + 1)

-- a fault that is passed up is no deeper than 255
passed_255 : {A : Type 0} (a : Answer A) (g : Fault) → passed_up a ≡ fault g → g.depth ≤ 255
passed_255 (found x) g e = let z : ◌≡◌ {A = ℕ} 0 1 = cc in absurd (omega arith)
passed_255 (fault f) g e = let q : deeper f ≡ g = cc in subst (λ h. h.depth ≤ 255) q (deeper_255 f)

-- what a filter keeps

pub kept_length : {A : Type 0} (test : A → Bool) (xs : List A) → length (filter test xs) ≤ length xs
kept_length test xs = omega (arith, length-filter_both test (λ x. not (test x)) (λ x. refl) xs)

all_kept : {A : Type 0} (P : A → Type 0) (test : A → Bool) (xs : List A) → AllByRecursion P xs → AllByRecursion P (filter test xs)
all_kept P test xs h = all_from_members P (filter test xs) (λ x k. all_member P xs h x (kept_was test xs x k).0)

-- the exclude layer

module _ (m : Meaning) (es : List ModuleVersion) where
  found_kept : (x : ModuleVersion) (xs : List ModuleVersion) → (excluding es m).requirements x ≡ found xs
      → (has es x ≡ false) × ((ys : List ModuleVersion) × (m.requirements x ≡ found ys) × (xs ≡ included es ys))
  found_kept x xs e = go (has es x) refl e
    where
      go : (b : Bool) → has es x ≡ b → cond b (fault missing_here) (passed_up (narrowed (included es) (m.requirements x))) ≡ found xs
          → (has es x ≡ false) × ((ys : List ModuleVersion) × (m.requirements x ≡ found ys) × (xs ≡ included es ys))
      go true t q = let z : ◌≡◌ {A = ℕ} 0 1 = cc in absurd (omega arith)
      go false t q = (t, narrowed_found (included es) (m.requirements x) xs (passed_found (narrowed (included es) (m.requirements x)) xs q))

  pub found_included : (x : ModuleVersion) (xs : List ModuleVersion) → (excluding es m).requirements x ≡ found xs
      → (has es x ≡ false) × ((ys : List ModuleVersion) × (m.requirements x ≡ found ys))
  found_included x xs e = let (t, (ys, r, u)) = found_kept x xs e in (t, (ys, r))

  listed_kept : (p : Bytes) (vs : List Bytes) → (excluding es m).listing p ≡ found vs → (ws : List Bytes) × (m.listing p ≡ found ws) × (vs ≡ filter (λ v. not (has es (at p v))) ws)
  listed_kept p vs e = let test = λ (w : Bytes). not (has es (at p w)) in narrowed_found (filter test) (m.listing p) vs (passed_found (narrowed (filter test) (m.listing p)) vs e)

  module _ (law : Lawful m) where
    excluded_depth : (x : ModuleVersion) (f : Fault) → (excluding es m).requirements x ≡ fault f → f.depth ≤ 255
    excluded_depth x f = go (has es x)
      where
        go : (b : Bool) → cond b (fault missing_here) (passed_up (narrowed (included es) (m.requirements x))) ≡ fault f → f.depth ≤ 255
        go true q = let e : missing_here ≡ f = cc in subst (λ h. h.depth ≤ 255) e (omega arith)
        go false q = passed_255 (narrowed (included es) (m.requirements x)) f q

    pub layer_lawful : Lawful (excluding es m)
    layer_lawful = record {
      few_rows = λ x rs e. let (t, (ys, r, u)) = found_kept x rs e in rw u (omega (arith, kept_length (λ y. not (has es y)) ys, law.few_rows x ys r));
      rows_formed = λ x rs e. let (t, (ys, r, u)) = found_kept x rs e in rw u (all_kept _ (λ y. not (has es y)) ys (law.rows_formed x ys r));
      few_versions = λ p vs e. let (ws, l, u) = listed_kept p vs e in rw u (omega (arith, kept_length (λ v. not (has es (at p v))) ws, law.few_versions p ws l));
      versions_formed = λ p vs e. let (ws, l, u) = listed_kept p vs e in rw u (all_kept _ (λ v. not (has es (at p v))) ws (law.versions_formed p ws l));
      ascending = λ p vs e. let (ws, l, u) = listed_kept p vs e in rw u (kept_ascending own version_order (λ v. not (has es (at p v))) ws (law.ascending p ws l));
      whole = λ p vs e v rs q.
          let (ws, l, u) = listed_kept p vs e in
          let (free, (ys, r)) = found_included (at p v) rs q in
          rw u (kept_member (λ v. not (has es (at p v))) ws v (law.whole p ws l v ys r) (ap not free));
      requirements_depth = excluded_depth;
      listing_depth = λ p f e. passed_255 (narrowed (filter (λ v. not (has es (at p v)))) (m.listing p)) f e;
    }

-- the fallback layer

few_found : (a : Answer (List Bytes)) (vs : List Bytes) → at_most_64 a ≡ found vs → (a ≡ found vs) × (length vs ≤ 64)
few_found (fault f) vs e = let z : ◌≡◌ {A = ℕ} 0 1 = cc in absurd (omega arith)
few_found (found ws) vs e = go (ltb 64 (length ws)) refl e
  where
    go : (b : Bool) → ltb 64 (length ws) ≡ b → cond b (fault over_64) (found ws) ≡ found vs → (found ws ≡ found vs) × (length vs ≤ 64)
    go true t q = let z : ◌≡◌ {A = ℕ} 0 1 = cc in absurd (omega arith)
    go false t q = let same : ws ≡ vs = cc in (q, subst (λ zs. length zs ≤ 64) same (ltb-false 64 (length ws) t))

few_fault : (a : Answer (List Bytes)) (g : Fault) → at_most_64 a ≡ fault g → (a ≡ fault g) ⊎ (g ≡ over_64)
few_fault (fault f) g e = inl e
few_fault (found ws) g e = go (ltb 64 (length ws)) e
  where
    go : (b : Bool) → cond b (fault over_64) (found ws) ≡ fault g → (found ws ≡ fault g) ⊎ (g ≡ over_64)
    go true q = inr (let same : over_64 ≡ g = cc in sym same)
    go false q = inl q

both_found : (a b : Answer (List Bytes)) (zs : List Bytes) → both_listed a b ≡ found zs
    → (vs : List Bytes) × (ws : List Bytes) × (a ≡ found vs) × (b ≡ found ws) × (zs ≡ joined_versions vs ws)
both_found (fault f) b zs e = let z : ◌≡◌ {A = ℕ} 0 1 = cc in absurd (omega arith)
both_found (found vs) (fault f) zs e = let z : ◌≡◌ {A = ℕ} 0 1 = cc in absurd (omega arith)
both_found (found vs) (found ws) zs e = (vs, ws, refl, refl, cc)

either_found : (a b : Answer (List ModuleVersion)) (xs : List ModuleVersion) → or_else a b ≡ found xs → (a ≡ found xs) ⊎ (b ≡ found xs)
either_found (found ys) b xs e = inl e
either_found (fault f) b xs e = go (is_missing f.cause) e
  where
    go : (t : Bool) → cond t b (fault f) ≡ found xs → (fault f ≡ found xs) ⊎ (b ≡ found xs)
    go true q = inr q
    go false q = inl q

module _ (a b : Meaning) where
  found_either : (x : ModuleVersion) (xs : List ModuleVersion) → (falling_back a b).requirements x ≡ found xs → (a.requirements x ≡ found xs) ⊎ (b.requirements x ≡ found xs)
  found_either x xs e = either_found (a.requirements x) (b.requirements x) xs (passed_found (or_else (a.requirements x) (b.requirements x)) xs e)

  listed_both : (p : Bytes) (zs : List Bytes) → (falling_back a b).listing p ≡ found zs
      → (vs : List Bytes) × (ws : List Bytes) × (a.listing p ≡ found vs) × (b.listing p ≡ found ws) × (zs ≡ joined_versions vs ws)
  listed_both p zs e =
      let both = both_listed (a.listing p) (b.listing p) in
      both_found (a.listing p) (b.listing p) zs (passed_found both zs (few_found (passed_up both) zs e).0)

  module _ (la : Lawful a) (lb : Lawful b) where
    -- the joined versions are a table of exactly the versions of both
    joined_exactly : (p : Bytes) (vs ws : List Bytes) → a.listing p ≡ found vs → Exactly (λ v. (v ∈ vs) ⊎ (v ∈ ws)) (joined_versions vs ws)
    joined_exactly p vs ws e = (
      joined_ascending own version_order versions vs ws (la.ascending p vs e),
      entered_all_told own version_order versions (λ y z q. q) vs ws (la.ascending p vs e),
    )

    pub fallback_lawful : Lawful (falling_back a b)
    fallback_lawful = record {
      few_rows = λ x rs e. ⊎_elim (la.few_rows x rs) (lb.few_rows x rs) (found_either x rs e);
      rows_formed = λ x rs e. ⊎_elim (la.rows_formed x rs) (lb.rows_formed x rs) (found_either x rs e);
      few_versions = λ p zs e. (few_found (passed_up (both_listed (a.listing p) (b.listing p))) zs e).1;
      versions_formed = λ p zs e.
          let (vs, ws, f, g, is) = listed_both p zs e in
          rw is (all_from_members _ (joined_versions vs ws)
          (λ v h. ⊎_elim (all_member _ vs (la.versions_formed p vs f) v) (all_member _ ws (lb.versions_formed p ws g) v) (((joined_exactly p vs ws f).1 v).0 h)));
      ascending = λ p zs e. let (vs, ws, f, g, is) = listed_both p zs e in rw is (joined_exactly p vs ws f).0;
      whole = λ p zs e v rs q.
          let (vs, ws, f, g, is) = listed_both p zs e in
          rw is (((joined_exactly p vs ws f).1 v).1 (⊎_elim (λ r. inl (la.whole p vs f v rs r)) (λ r. inr (lb.whole p ws g v rs r)) (found_either (at p v) rs q)));
      requirements_depth = λ x f e. passed_255 (or_else (a.requirements x) (b.requirements x)) f e;
      listing_depth = λ p f e.
          let both = both_listed (a.listing p) (b.listing p) in
          ⊎_elim (passed_255 both f) (λ q. rw q (omega arith)) (few_fault (passed_up both) f e);
    }

-- how answers come up

deeper_one : (f : Fault) → DeeperBy 1 f (deeper f)
deeper_one f = record { cause = refl; place = refl; grows = λ h. min-eq_right h; stops = λ h. min-eq_left h }

deeper_twice : (j k : ℕ) (f g h : Fault) → DeeperBy j f g → DeeperBy k g h → DeeperBy (j + k) f h
deeper_twice j k f g h r s = record {
  cause = s.cause ∙ r.cause;
  place = s.place ∙ r.place;
  grows = λ l. omega (arith, r.grows (omega arith), s.grows (omega (arith, r.grows (omega arith))));
  stops = λ l. ⊎_elim (λ (d : f.depth + j ≤ 255). s.stops (omega (arith, r.grows d))) (λ (d : 255 ≤ f.depth + j). s.stops (omega (arith, r.stops d))) (either (f.depth + j));
}
  where
    either : (n : ℕ) → (n ≤ 255) ⊎ (255 ≤ n)
    either n = ⊎_elim (λ t. inr (omega (arith, ltb-true 255 n t))) (λ t. inl (ltb-false 255 n t)) (cases_Bool (ltb 255 n))

module _ {A : Type 0} where
  passed_comes : (Becomes : A → A → Type 0) (f : A → A) → ((a : A) → Becomes a (f a)) → (a : Answer A) → ComesUp 1 Becomes a (passed_up (narrowed f a))
  passed_comes Becomes f h (found a) = h a
  passed_comes Becomes f h (fault g) = deeper_one g

  just_comes : (a : Answer A) → ComesUp 1 ◌≡◌ a (passed_up a)
  just_comes (found a) = refl
  just_comes (fault g) = deeper_one g

  fault_twice : (j k : ℕ) (R S T : A → A → Type 0) (f : Fault) (b c : Answer A) → ComesUp j R (fault f) b → ComesUp k S b c → ComesUp (j + k) T (fault f) c
  fault_twice j k R S T f (found y) c r s = absurd r
  fault_twice j k R S T f (fault g) (found z) r s = absurd s
  fault_twice j k R S T f (fault g) (fault h) r s = deeper_twice j k f g h r s

  comes_twice : (j k : ℕ) (R S T : A → A → Type 0) → ((x y z : A) → R x y → S y z → T x z) → (a b c : Answer A) → ComesUp j R a b → ComesUp k S b c → ComesUp (j + k) T a c
  comes_twice j k R S T both (found x) (found y) (found z) r s = both x y z r s
  comes_twice j k R S T both (found x) (found y) (fault h) r s = absurd s
  comes_twice j k R S T both (found x) (fault g) c r s = absurd r
  comes_twice j k R S T both (fault f) b c r s = fault_twice j k R S T f b c r s

  -- what is missing above is missing below, and the other way round
  missing_below : (k : ℕ) (R : A → A → Type 0) (a b : Answer A) → ComesUp k R a b → MissingIn b → MissingIn a
  missing_below k R (found x) (found y) r (f, e, c) = let z : ◌≡◌ {A = ℕ} 0 1 = cc in absurd (omega arith)
  missing_below k R (found x) (fault g) r m = absurd r
  missing_below k R (fault f) (found y) r m = absurd r
  missing_below k R (fault f) (fault g) r (h, e, c) = let same : g ≡ h = cc in (f, refl, sym r.cause ∙ ap (λ w. w.cause) same ∙ c)

  missing_above : (k : ℕ) (R : A → A → Type 0) (a b : Answer A) → ComesUp k R a b → MissingIn a → MissingIn b
  missing_above k R (found x) b r (f, e, c) = let z : ◌≡◌ {A = ℕ} 0 1 = cc in absurd (omega arith)
  missing_above k R (fault f) (found y) r m = absurd r
  missing_above k R (fault f) (fault g) r (h, e, c) = let same : f ≡ h = cc in (g, refl, r.cause ∙ ap (λ w. w.cause) same ∙ c)

  module _ (Out : A → Type 0) (test : A → Bool) (in_front : (x : A) → test x ≡ true → Out x → ⊥) (behind : (x : A) → test x ≡ false → Out x) where
    kept_without : (xs : List A) → Without Out xs (filter test xs)
    kept_without [] = nothing
    kept_without (x ∷ xs) = go (test x) refl (kept_without xs)
      where
        go : (b : Bool) → test x ≡ b → Without Out xs (filter test xs) → Without Out (x ∷ xs) (cond b (x ∷ filter test xs) (filter test xs))
        go true e w = stays (in_front x e) w
        go false e w = left_out (behind x e) w

    kept_exactly : (xs : List A) (x : A) → x ∈ filter test xs ↔ ((x ∈ xs) × (Out x → ⊥))
    kept_exactly xs x = (
      (λ h. let (k, t) = kept_was test xs x h in (k, in_front x t)),
      (λ (h, free). kept_member test xs x h (⊎_elim (λ t. t) (λ t. absurd (free (behind x t))) (cases_Bool (test x)))),
    )

missing_is : (c : Cause) → is_missing c ≡ true → c ≡ missing
missing_is too_long t = absurd (true≢false (sym t))
missing_is bad_byte t = absurd (true≢false (sym t))
missing_is wrong_shape t = absurd (true≢false (sym t))
missing_is bad_path t = absurd (true≢false (sym t))
missing_is bad_version t = absurd (true≢false (sym t))
missing_is module_line t = absurd (true≢false (sym t))
missing_is row_too_many t = absurd (true≢false (sym t))
missing_is missing t = refl
missing_is damaged_buffer t = absurd (true≢false (sym t))
missing_is too_many_to_list t = absurd (true≢false (sym t))
missing_is slice_too_short t = absurd (true≢false (sym t))
missing_is too_many_module_versions t = absurd (true≢false (sym t))
missing_is table_full t = absurd (true≢false (sym t))
missing_is nothing_to_change t = absurd (true≢false (sym t))

-- what the exclude layer answers

module _ (es : List ModuleVersion) where
  not_included : (x : ModuleVersion) → not (has es x) ≡ true → x ∈ es → ⊥
  not_included x t = no_member_from_has es x (not-true (has es x) t)

  not_left_out : (x : ModuleVersion) → not (has es x) ≡ false → x ∈ es
  not_left_out x t = member_from_has es x (not-false (has es x) t)

  pub exclude_answers : (m : Meaning) → ExcludeAnswers es m
  exclude_answers m = record {
    excluded = λ x h. ap (λ b. cond b (fault missing_here) (passed_up (narrowed (included es) (m.requirements x)))) (has_from_member es x h);
    requirements = λ x h.
        subst (λ b. ComesUp 1 (Without (λ r. r ∈ es)) (m.requirements x) (cond b (fault missing_here) (passed_up (narrowed (included es) (m.requirements x)))))
        (sym (⊎_elim (λ t. absurd (h (member_from_has es x t))) (λ t. t) (cases_Bool (has es x))))
        (passed_comes (Without (λ r. r ∈ es)) (included es) (kept_without (λ r. r ∈ es) (λ r. not (has es r)) not_included not_left_out) (m.requirements x));
    listing = λ p.
        passed_comes (Without (λ v. at p v ∈ es)) (filter (λ v. not (has es (at p v))))
        (kept_without (λ v. at p v ∈ es) (λ v. not (has es (at p v))) (λ v. not_included (at p v)) (λ v. not_left_out (at p v))) (m.listing p);
  }

-- what the fallback layer answers

first_stands : (a b : Answer (List ModuleVersion)) → (MissingIn a → ⊥) → or_else a b ≡ a
first_stands (found xs) b n = refl
first_stands (fault f) b n = go (is_missing f.cause) refl
  where
    go : (t : Bool) → is_missing f.cause ≡ t → cond t b (fault f) ≡ fault f
    go true e = absurd (n (f, refl, missing_is f.cause e))
    go false e = refl

second_stands : (a b : Answer (List ModuleVersion)) → MissingIn a → or_else a b ≡ b
second_stands a b (f, e, c) = ap (λ z. or_else z b) e ∙ ap (λ k. cond (is_missing k) b (fault f)) c

module _ (a b : Meaning) (la : Lawful a) (lb : Lawful b) where
  -- both are found
  fallback_lists : (p : Bytes) (vs ws : List Bytes) → a.listing p ≡ found vs → b.listing p ≡ found ws → (falling_back a b).listing p ≡ at_most_64 (found (joined_versions vs ws))
  fallback_lists p vs ws e f = ap (λ z. at_most_64 (passed_up (both_listed z (b.listing p)))) e ∙ ap (λ z. at_most_64 (passed_up (both_listed (found vs) z))) f

  first_fails : (p : Bytes) (f : Fault) → a.listing p ≡ fault f → (falling_back a b).listing p ≡ fault (deeper f)
  first_fails p f e = ap (λ z. at_most_64 (passed_up (both_listed z (b.listing p)))) e

  second_fails : (p : Bytes) (vs : List Bytes) (f : Fault) → a.listing p ≡ found vs → b.listing p ≡ fault f → (falling_back a b).listing p ≡ fault (deeper f)
  second_fails p vs f e g = ap (λ z. at_most_64 (passed_up (both_listed z (b.listing p)))) e ∙ ap (λ z. at_most_64 (passed_up (both_listed (found vs) z))) g

  pub fallback_answers : FallbackAnswers a b
  fallback_answers = record {
    first = λ x n. subst (λ z. ComesUp 1 ◌≡◌ (a.requirements x) (passed_up z)) (sym (first_stands (a.requirements x) (b.requirements x) n)) (just_comes (a.requirements x));
    second = λ x n. subst (λ z. ComesUp 1 ◌≡◌ (b.requirements x) (passed_up z)) (sym (second_stands (a.requirements x) (b.requirements x) n)) (just_comes (b.requirements x));
    listing = λ p vs ws e f. let zs = joined_versions vs ws in (
      zs,
      joined_exactly a b la lb p vs ws e,
      λ few. fallback_lists p vs ws e f ∙ ap (λ t. cond t (fault over_64) (found zs)) (le-ltb 64 (length zs) few),
      λ more. fallback_lists p vs ws e f ∙ ap (λ t. cond t (fault over_64) (found zs)) (lt-ltb 64 (length zs) more),
    );
    first_fault = λ p f e. subst (ComesUp 1 ◌≡◌ (fault f)) (sym (first_fails p f e)) (deeper_one f);
    second_fault = λ p vs f e g. subst (ComesUp 1 ◌≡◌ (fault f)) (sym (second_fails p vs f e g)) (deeper_one f);
  }

-- both layers

module _ (a b : Meaning) (la : Lawful a) (lb : Lawful b) (es : List ModuleVersion) where
  abbrev Left : List ModuleVersion → List ModuleVersion → Type 0
  Left = Without (λ r. r ∈ es)

  abbrev below : Meaning
  below = falling_back a b

  exclude_over_fallback : ExcludeOverFallback es a b
  exclude_over_fallback = record {
    excluded = above.excluded;
    first = λ x out n. comes_twice 1 1 ◌≡◌ Left Left (λ u v w e r. rw e r) (a.requirements x) (below.requirements x) ((excluding es below).requirements x) (fall.first x n) (above.requirements x out);
    second = λ x out n. comes_twice 1 1 ◌≡◌ Left Left (λ u v w e r. rw e r) (b.requirements x) (below.requirements x) ((excluding es below).requirements x) (fall.second x n) (above.requirements x out);
    listing = λ p vs ws e f.
        let (zs, exact, few, more) = fall.listing p vs ws e f in
        let test = λ (v : Bytes). not (has es (at p v)) in
        let left = kept_exactly (λ v. at p v ∈ es) test (λ v. not_included es (at p v)) (λ v. not_left_out es (at p v)) zs in (
          zs,
          exact,
          λ l. (
            filter test zs,
            ap (λ z. passed_up (narrowed (filter test) z)) (few l),
            (kept_ascending own version_order test zs exact.0, λ v. (λ h. let (k, out) = (left v).0 h in ((exact.1 v).0 k, out), λ (h, out). (left v).1 ((exact.1 v).1 h, out))),
          ),
          λ l. ap (λ z. passed_up (narrowed (filter test) z)) (more l),
        );
    first_fault = λ p f e. fault_twice 1 1 ◌≡◌ (Without (λ v. at p v ∈ es)) ◌≡◌ f (below.listing p) ((excluding es below).listing p) (fall.first_fault p f e) (above.listing p);
    second_fault = λ p vs f e g. fault_twice 1 1 ◌≡◌ (Without (λ v. at p v ∈ es)) ◌≡◌ f (below.listing p) ((excluding es below).listing p) (fall.second_fault p vs f e g) (above.listing p);
  }
    where
      fall : FallbackAnswers a b
      fall = fallback_answers a b la lb

      above : ExcludeAnswers es below
      above = exclude_answers es below

module _ (a b : Meaning) (la : Lawful a) (lb : Lawful b) (es fs : List ModuleVersion) where
  abbrev OutFirst : List ModuleVersion → List ModuleVersion → Type 0
  OutFirst = Without (λ r. r ∈ es)

  abbrev OutSecond : List ModuleVersion → List ModuleVersion → Type 0
  OutSecond = Without (λ r. r ∈ fs)

  abbrev one : Meaning
  one = excluding es a

  abbrev two : Meaning
  two = excluding fs b

  missing_first : (x : ModuleVersion) → (x ∈ es) ⊎ MissingIn (a.requirements x) → MissingIn (one.requirements x)
  missing_first x h =
      ⊎_elim (λ t. (missing_here, (exclude_answers es a).excluded x (member_from_has es x t), refl))
      (λ t. let out = no_member_from_has es x t in
      missing_above 1 OutFirst (a.requirements x) (one.requirements x) ((exclude_answers es a).requirements x out) (⊎_elim (λ k. absurd (out k)) (λ m. m) h))
      (cases_Bool (has es x))

  fallback_over_excludes : FallbackOverExcludes es fs a b
  fallback_over_excludes = record {
    first = λ x out n.
        let up = (exclude_answers es a).requirements x out in
        comes_twice 1 1 OutFirst ◌≡◌ OutFirst (λ u v w r e. subst (OutFirst u) e r) (a.requirements x) (one.requirements x) ((falling_back one two).requirements x) up
        (over.first x (λ m. n (missing_below 1 OutFirst (a.requirements x) (one.requirements x) up m)));
    second = λ x m out.
        comes_twice 1 1 OutSecond ◌≡◌ OutSecond (λ u v w r e. subst (OutSecond u) e r) (b.requirements x) (two.requirements x) ((falling_back one two).requirements x)
        ((exclude_answers fs b).requirements x out) (over.second x (missing_first x m));
    excluded = λ x m h. ap passed_up (second_stands (one.requirements x) (two.requirements x) (missing_first x m)) ∙ ap passed_up ((exclude_answers fs b).excluded x h);
    listing = λ p vs ws e f.
        let kept = λ (gs : List ModuleVersion) (us : List Bytes). filter (λ v. not (has gs (at p v))) us in
        let (zs, exact, few, more) = over.listing p (kept es vs) (kept fs ws) (ap (λ z. passed_up (narrowed (kept es) z)) e) (ap (λ z. passed_up (narrowed (kept fs) z)) f) in
        let left = λ (gs : List ModuleVersion). kept_exactly (λ v. at p v ∈ gs) (λ v. not (has gs (at p v))) (λ v. not_included gs (at p v)) (λ v. not_left_out gs (at p v)) in (
          zs,
          (
            exact.0,
            λ v. (
              (λ h. ⊎_elim (λ k. inl ((left es vs v).0 k)) (λ k. inr ((left fs ws v).0 k)) ((exact.1 v).0 h)),
              (λ h. (exact.1 v).1 (⊎_elim (λ k. inl ((left es vs v).1 k)) (λ k. inr ((left fs ws v).1 k)) h)),
            ),
          ),
          few,
          more,
        );
    first_fault = λ p f e.
        fault_twice 1 1 ◌≡◌ ◌≡◌ ◌≡◌ f (fault (deeper f)) ((falling_back one two).listing p) (deeper_one f)
        (over.first_fault p (deeper f) (ap (λ z. passed_up (narrowed (filter (λ v. not (has es (at p v)))) z)) e));
    second_fault = λ p vs f e g.
        fault_twice 1 1 ◌≡◌ ◌≡◌ ◌≡◌ f (fault (deeper f)) ((falling_back one two).listing p) (deeper_one f)
        (over.second_fault p (filter (λ v. not (has es (at p v))) vs) (deeper f) (ap (λ z. passed_up (narrowed (filter (λ v. not (has es (at p v)))) z)) e)
        (ap (λ z. passed_up (narrowed (filter (λ v. not (has fs (at p v)))) z)) g));
  }
    where
      over : FallbackAnswers one two
      over = fallback_answers one two (layer_lawful a es la) (layer_lawful b fs lb)

-- what is claimed

pub layer_right : LayerRight
layer_right m es = (layer_lawful m es, exclude_answers es m)

pub fallback_right : FallbackRight
fallback_right a b la lb = (fallback_lawful a b la lb, fallback_answers a b la lb)

pub two_layers_right : TwoLayersRight
two_layers_right a b la lb es fs = (exclude_over_fallback a b la lb es, fallback_over_excludes a b la lb es fs)

pub pile_right : PileRight
pile_right (source m) law = law
pile_right (exclude_layer es t) law = layer_lawful (meaning_of t) es (pile_right t law)
pile_right (fallback_layer t u) (lt, lu) = fallback_lawful (meaning_of t) (meaning_of u) (pile_right t lt) (pile_right u lu)
