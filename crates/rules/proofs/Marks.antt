-- The rows that a lower computes are those that it means: what is barred within 257 steps is barred for good. Assumes nothing.
use Rattle.std.proofs.Common.{◌≡◌, ℕ, zero, suc, ◌≤◌, Bool, true, false, cond, not, ◌⊎◌, List, [], ◌∷◌, length, filter, sym, refl, ap, ◌∙◌, subst, ap₂, inl, inr, ⊎_elim, true≢false, arith}
use Rattle.std.proofs.lemmas.Bool.{or_cases, or_left, or_right, or_parts, cases_Bool, cases_lt, not-true}
use Rattle.rules.specs.Orders.{Bytes}
use Rattle.rules.specs.Names.{ModuleVersion, ◌∈◌}
use Rattle.rules.specs.Causes.{Fault, is_missing}
use Rattle.rules.specs.Sources.{Answer, found, fault, Meaning, found_in}
use Rattle.rules.specs.Projects.{State, View, view, remaining, Requires}
use Rattle.rules.specs.Walks.{module_versions, done, list_walk}
use Rattle.rules.specs.Rows.{table}
use Rattle.rules.specs.Lowers.{some, is_missing_answer, Above, is_above, Missing, Leads, itself, through, Allowed, Kept, old_list, ceilings_at, offers, lower_walk, is_bad, barred, kept_rows, KeptMeant}
use Rattle.rules.proofs.Members.{kept_member, kept_was}
use Rattle.rules.proofs.Rows.{table_was, table_stands, table_ascending, tables_same}
use Rattle.rules.proofs.Reached.{required_apart}
use Rattle.rules.proofs.Lists.{is_list}
use Rattle.rules.proofs.Sheets.{length_module_versions}
use Rattle.rules.proofs.Offers.{above_from_test, test_from_above, ceilings_apart, offers_was, offers_offered, offered_offers}
use Rattle.rules.proofs.LowerWalks.{few_rows, start_on, has_list}

-- how many of a list pass a test

abbrev count : (ModuleVersion → Bool) → List ModuleVersion → ℕ
count f [] = 0
count f (x ∷ xs) = cond (f x) (suc (count f xs)) (count f xs)

count_length : (f : ModuleVersion → Bool) (xs : List ModuleVersion) → count f xs ≤ length xs
count_length f [] = omega arith
count_length f (x ∷ xs) = go (f x) (count_length f xs)
  where
    go : (b : Bool) → count f xs ≤ length xs → cond b (suc (count f xs)) (count f xs) ≤ suc (length xs)
    go true h = omega arith
    go false h = omega arith

module _ (f g : ModuleVersion → Bool) (more : (x : ModuleVersion) → f x ≡ true → g x ≡ true) where
  count_more : (xs : List ModuleVersion) → count f xs ≤ count g xs
  count_more [] = omega arith
  count_more (x ∷ xs) = go (f x) refl (g x) refl (count_more xs)
    where
      go : (b : Bool) → f x ≡ b → (c : Bool) → g x ≡ c → count f xs ≤ count g xs → cond b (suc (count f xs)) (count f xs) ≤ cond c (suc (count g xs)) (count g xs)
      go true e true d h = omega arith
      go true e false d h = absurd (true≢false (sym (more x e) ∙ d))
      go false e true d h = omega arith
      go false e false d h = omega arith

  -- either the second test passes no more of them, or more by one at least
  count_grows : (xs : List ModuleVersion) → ((x : ModuleVersion) → x ∈ xs → g x ≡ true → f x ≡ true) ⊎ (suc (count f xs) ≤ count g xs)
  count_grows [] = inl (λ x h. absurd h)
  count_grows (x ∷ xs) = go (f x) refl (g x) refl (count_grows xs)
    where
      go : (b : Bool) → f x ≡ b → (c : Bool) → g x ≡ c → ((y : ModuleVersion) → y ∈ xs → g y ≡ true → f y ≡ true) ⊎ (suc (count f xs) ≤ count g xs)
          → ((y : ModuleVersion) → (y ≡ x) ⊎ (y ∈ xs) → g y ≡ true → f y ≡ true) ⊎ (suc (cond b (suc (count f xs)) (count f xs)) ≤ cond c (suc (count g xs)) (count g xs))
      go true e c d (inl h) = inl (λ y. ⊎_elim (λ p t. ap f p ∙ e) (λ k. h y k))
      go true e true d (inr h) = inr (omega arith)
      go true e false d (inr h) = absurd (true≢false (sym (more x e) ∙ d))
      go false e true d h = inr (omega (arith, count_more xs))
      go false e false d (inl h) = inl (λ y. ⊎_elim (λ p t. absurd (true≢false (sym t ∙ ap g p ∙ d))) (λ k. h y k))
      go false e false d (inr h) = inr h

-- the tests

pub some_there : (test : ModuleVersion → Bool) (xs : List ModuleVersion) → some test xs ≡ true → (x : ModuleVersion) × (x ∈ xs) × (test x ≡ true)
some_there test [] t = absurd (true≢false (sym t))
some_there test (x ∷ xs) t =
    ⊎_elim (λ h. (x, inl refl, h)) (λ h. let (y, k, e) = some_there test xs h in (y, inr k, e)) (or_cases (test x) (some test xs) t)

pub there_some : (test : ModuleVersion → Bool) (xs : List ModuleVersion) (x : ModuleVersion) → x ∈ xs → test x ≡ true → some test xs ≡ true
there_some test [] x h t = absurd h
there_some test (y ∷ ys) x (inl e) t = or_left _ _ (ap test (sym e) ∙ t)
there_some test (y ∷ ys) x (inr h) t = or_right _ _ (there_some test ys x h t)

in_found : (a : Answer (List ModuleVersion)) (y : ModuleVersion) → y ∈ found_in a → (ys : List ModuleVersion) × (a ≡ found ys) × (y ∈ ys)
in_found (found ys) y h = (ys, refl, h)
in_found (fault f) y h = absurd h

missing_there : (a : Answer (List ModuleVersion)) → is_missing_answer a ≡ true → (f : Fault) × (a ≡ fault f) × (is_missing f.cause ≡ true)
missing_there (found xs) t = absurd (true≢false (sym t))
missing_there (fault f) t = (f, refl, t)

-- a filter depends on its test at members alone
kept_same : (f g : ModuleVersion → Bool) (xs : List ModuleVersion) → ((x : ModuleVersion) → x ∈ xs → f x ≡ g x) → filter f xs ≡ filter g xs
kept_same f g [] same = refl
kept_same f g (x ∷ xs) same = ap₂ (λ b ys. cond b (x ∷ ys) ys) (same x (inl refl)) (kept_same f g xs (λ y h. same y (inr h)))

-- barred

module _ (w : View) (cs : List ModuleVersion) where
  bad_meets : (x : ModuleVersion) → is_bad w cs x ≡ true → Above cs x ⊎ Missing w x
  bad_meets x t = ⊎_elim (λ h. inl (above_from_test cs x h)) (λ h. inr (missing_there (remaining w x) h)) (or_cases (is_above cs x) (is_missing_answer (remaining w x)) t)

  barred_meets : (n : ℕ) (x : ModuleVersion) → barred w cs n x ≡ true → (y : ModuleVersion) × Leads w x y × (Above cs y ⊎ Missing w y)
  unfolding barred
  barred_meets zero x t = (x, itself, bad_meets x t)
  barred_meets (suc n) x t =
      ⊎_elim (λ h. (x, itself, bad_meets x h))
      (λ h.
      let (y, k, e) = some_there (barred w cs n) (found_in (remaining w x)) h in
      let (z, l, met) = barred_meets n y e in
      (z, through (in_found (remaining w x) y k) l, met))
      (or_cases (is_bad w cs x) (some (barred w cs n) (found_in (remaining w x))) t)

  pub allowed_unbarred : (n : ℕ) (x : ModuleVersion) → Allowed w cs x → barred w cs n x ≡ false
  allowed_unbarred n x free =
      ⊎_elim (λ t. let (y, l, met) = barred_meets n x t in absurd (⊎_elim (free y l).0 (free y l).1 met)) (λ t. t) (cases_Bool (barred w cs n x))

  barred_next : (n : ℕ) (x : ModuleVersion) → barred w cs n x ≡ true → barred w cs (suc n) x ≡ true
  unfolding barred
  barred_next zero x t = or_left _ _ t
  barred_next (suc n) x t =
      ⊎_elim (λ h. or_left _ _ h)
      (λ h.
      let (y, k, e) = some_there (barred w cs n) (found_in (remaining w x)) h in
      or_right (is_bad w cs x) _ (there_some (barred w cs (suc n)) (found_in (remaining w x)) y k (barred_next n y e)))
      (or_cases (is_bad w cs x) (some (barred w cs n) (found_in (remaining w x))) t)

  barred_back : (n : ℕ) (x y : ModuleVersion) → Requires w x y → barred w cs n y ≡ true → barred w cs (suc n) x ≡ true
  unfolding barred
  barred_back n x y (ys, e, h) t = or_right (is_bad w cs x) _ (rw e (there_some (barred w cs n) ys y h t))

  not_bad : (x : ModuleVersion) → is_bad w cs x ≡ false → (Above cs x → ⊥) × (Missing w x → ⊥)
  not_bad x t =
      let (a, g) = or_parts (is_above cs x) (is_missing_answer (remaining w x)) t in
      (λ h. true≢false (sym (test_from_above cs x h) ∙ a), λ (f, e, c). true≢false (sym (ap is_missing_answer e ∙ c) ∙ g))

  unbarred_low : (x : ModuleVersion) → barred w cs 0 x ≡ false → (Above cs x → ⊥) × (Missing w x → ⊥)
  unfolding barred
  unbarred_low x t = not_bad x t

  unbarred_before : (n : ℕ) (x : ModuleVersion) → barred w cs (suc n) x ≡ false → barred w cs n x ≡ false
  unbarred_before n x t = ⊎_elim (λ e. absurd (true≢false (sym (barred_next n x e) ∙ t))) (λ e. e) (cases_Bool (barred w cs n x))

  unbarred_upto : (k n : ℕ) (x : ModuleVersion) → k ≤ n → barred w cs n x ≡ false → barred w cs k x ≡ false
  unbarred_upto k zero x h t = let e : k ≡ 0 = omega arith in rw e t
  unbarred_upto k (suc n) x h t =
      ⊎_elim (λ l. unbarred_upto k n x (omega arith) (unbarred_before n x t)) (λ l. let e : k ≡ suc n = omega arith in rw e t) (cases_lt k (suc n))

  -- no more of them are barred after one step more
  abbrev Settled : ℕ → List ModuleVersion → Type 0
  Settled k xs = (x : ModuleVersion) → x ∈ xs → barred w cs (suc k) x ≡ true → barred w cs k x ≡ true

  -- each step that does not settle bars one more
  settles : (xs : List ModuleVersion) (n : ℕ) → ((k : ℕ) × (k ≤ n) × Settled k xs) ⊎ (n ≤ count (barred w cs n) xs)
  settles xs zero = inr (omega arith)
  settles xs (suc n) =
      ⊎_elim (λ (k, h, e). inl (k, omega arith, e))
      (λ h. ⊎_elim (λ e. inl (n, omega arith, e)) (λ l. inr (omega arith)) (count_grows (barred w cs n) (barred w cs (suc n)) (barred_next n) xs))
      (settles xs n)

-- The rows of a sheet on which every place was questioned: there are at most 256, the offers among them, and of each row off the main path that is
-- under its ceiling and there, what it requires.
pub record Whole (w : View) (cs on_sheet : List ModuleVersion) : Type 0 where
  pub few : length on_sheet ≤ 256
  pub starts : (x : ModuleVersion) → x ∈ offers w.layer cs → x ∈ on_sheet
  pub lists : (x : ModuleVersion) → x ∈ on_sheet → (x.path ≡ w.main → ⊥) → (Above cs x → ⊥) → (Missing w x → ⊥)
      → (xs : List ModuleVersion) × (remaining w x ≡ found xs) × ((y : ModuleVersion) → y ∈ xs → y ∈ on_sheet)

module _ (w : View) (cs on_sheet : List ModuleVersion) (whole : Whole w cs on_sheet) where
  settled : (k : ℕ) × (k ≤ 257) × Settled w cs k on_sheet
  settled =
      ⊎_elim (λ h. h)
      (λ h. absurd (omega (arith, h, count_length (barred w cs 257) on_sheet, whole.few)))
      (settles w cs on_sheet 257)

  -- where nothing more is barred, what is not barred leads only to what is not
  stays : (k : ℕ) → Settled w cs k on_sheet → {x y : ModuleVersion} → Leads w x y → x ∈ on_sheet → (x.path ≡ w.main → ⊥) → barred w cs k x ≡ false → barred w cs k y ≡ false
  stays k still itself h off t = t
  stays k still (through {x} {y} q l) h off t = stays k still l on (required_apart w x y q) free
    where
      low : (Above cs x → ⊥) × (Missing w x → ⊥)
      low = unbarred_low w cs x (unbarred_upto w cs 0 k x (omega arith) t)

      on : y ∈ on_sheet
      on =
          let (xs, e, all) = whole.lists x h off low.0 low.1 in
          let (ys, f, i) = q in
          let same : ys ≡ xs = cc in
          all y (subst (λ zs. y ∈ zs) same i)

      free : barred w cs k y ≡ false
      free = ⊎_elim (λ e. absurd (true≢false (sym (still x h (barred_back w cs k x y q e)) ∙ t))) (λ e. e) (cases_Bool (barred w cs k y))

  pub unbarred_allowed : (x : ModuleVersion) → x ∈ on_sheet → (x.path ≡ w.main → ⊥) → barred w cs 257 x ≡ false → Allowed w cs x
  unbarred_allowed x h off t y l =
      let (k, short, still) = settled in
      let free = stays k still l h off (unbarred_upto w cs k 257 x short t) in
      unbarred_low w cs y (unbarred_upto w cs 0 k y (omega arith) free)

  -- Any marking of the sheet will do that marks what is bad, and what requires what is marked, and nothing that is allowed.
  module _ (mark : ModuleVersion → Bool) (marks_bad : (x : ModuleVersion) → x ∈ on_sheet → is_bad w cs x ≡ true → mark x ≡ true)
      (marks_back : (x y : ModuleVersion) → x ∈ on_sheet → (x.path ≡ w.main → ⊥) → Requires w x y → mark y ≡ true → mark x ≡ true)
      (spares : (x : ModuleVersion) → x ∈ on_sheet → mark x ≡ true → Allowed w cs x → ⊥) where
    unmarked_leads : {x y : ModuleVersion} → Leads w x y → x ∈ on_sheet → (x.path ≡ w.main → ⊥) → mark x ≡ false → (Above cs y → ⊥) × (Missing w y → ⊥)
    unmarked_leads (itself {x}) h off t = low
      where
        low : (Above cs x → ⊥) × (Missing w x → ⊥)
        low = not_bad w cs x (⊎_elim (λ b. absurd (true≢false (sym (marks_bad x h b) ∙ t))) (λ b. b) (cases_Bool (is_bad w cs x)))
    unmarked_leads (through {x} {y} q l) h off t = unmarked_leads l on (required_apart w x y q) free
      where
        low : (Above cs x → ⊥) × (Missing w x → ⊥)
        low = not_bad w cs x (⊎_elim (λ b. absurd (true≢false (sym (marks_bad x h b) ∙ t))) (λ b. b) (cases_Bool (is_bad w cs x)))

        on : y ∈ on_sheet
        on =
            let (xs, e, all) = whole.lists x h off low.0 low.1 in
            let (ys, f, i) = q in
            let same : ys ≡ xs = cc in
            all y (subst (λ zs. y ∈ zs) same i)

        free : mark y ≡ false
        free = ⊎_elim (λ e. absurd (true≢false (sym (marks_back x y h off q e) ∙ t))) (λ e. e) (cases_Bool (mark y))

    pub marked_is_barred : (x : ModuleVersion) → x ∈ on_sheet → (x.path ≡ w.main → ⊥) → mark x ≡ barred w cs 257 x
    marked_is_barred x h off = go (mark x) refl (barred w cs 257 x) refl
      where
        go : (a : Bool) → mark x ≡ a → (b : Bool) → barred w cs 257 x ≡ b → a ≡ b
        go true e true f = refl
        go true e false f = absurd (spares x h e (unbarred_allowed x h off f))
        go false e true f = absurd (true≢false (sym f ∙ allowed_unbarred w cs 257 x (λ y l. unmarked_leads l h off e)))
        go false e false f = refl

    -- so the kept rows are the highest unmarked ones
    pub kept_rows_unmarked : ((x : ModuleVersion) → x ∈ offers w.layer cs → x.path ≡ w.main → ⊥) → kept_rows w cs ≡ table (filter (λ x. not (mark x)) (offers w.layer cs))
    unfolding kept_rows
    kept_rows_unmarked apart =
        ap table (kept_same (λ x. not (barred w cs 257 x)) (λ x. not (mark x)) (offers w.layer cs)
        (λ x h. ap not (sym (marked_is_barred x (whole.starts x h) (apart x h)))))

  kept_rows_kept : ((x : ModuleVersion) → x ∈ offers w.layer cs → x.path ≡ w.main → ⊥) → Kept w cs (kept_rows w cs)
  unfolding kept_rows
  kept_rows_kept apart = record {
    ascending = table_ascending (filter test start);
    allowed = λ x h. let (k, t) = kept_was test start x (table_was (filter test start) x h) in (offers_offered w.layer cs x k, unbarred_allowed x (whole.starts x k) (apart x k) (not-true (barred w cs 257 x) t));
    highest = λ x h free. table_stands (filter test start) x (kept_member test start x (offered_offers w.layer cs x h) (ap not (allowed_unbarred w cs 257 x free)));
  }
    where
      start : List ModuleVersion
      start = offers w.layer cs

      test : ModuleVersion → Bool
      test x = not (barred w cs 257 x)

kept_once : (w : View) (cs rows more : List ModuleVersion) → Kept w cs rows → Kept w cs more → rows ≡ more
kept_once w cs rows more a b =
    tables_same rows more a.ascending b.ascending
    (λ x h. let (k, free) = a.allowed x h in b.highest x k free)
    (λ x h. let (k, free) = b.allowed x h in a.highest x k free)

-- rows of which `Kept` holds are the kept rows
pub kept_only : (w : View) (cs on_sheet : List ModuleVersion) → Whole w cs on_sheet → ((x : ModuleVersion) → x ∈ offers w.layer cs → x.path ≡ w.main → ⊥)
    → (rows : List ModuleVersion) → Kept w cs rows → rows ≡ kept_rows w cs
kept_only w cs on_sheet whole apart rows k = kept_once w cs rows (kept_rows w cs) k (kept_rows_kept w cs on_sheet whole apart)

-- lower's walk

module _ (m : Meaning) (s : State) (cs : List ModuleVersion) (ok : (lower_walk m s cs).end ≡ done) where
  abbrev walked : List ModuleVersion
  walked = module_versions (lower_walk m s cs).sheet

  pub walked_whole : Whole (view m s) cs walked
  walked_whole = record { few = omega (arith, length_module_versions (lower_walk m s cs).sheet, few_rows m s cs ok); starts = start_on m s cs ok; lists = has_list m s cs ok }

module _ (m : Meaning) (s : State) (p v : Bytes) where
  pub offers_apart : (x : ModuleVersion) → x ∈ offers (view m s).layer (ceilings_at m s p v) → x.path ≡ s.main → ⊥
  offers_apart x h q =
      let (c, k, r) = offers_was (view m s).layer (ceilings_at m s p v) x h in
      ceilings_apart s p v (old_list m s) (is_list s (list_walk m s).sheet) c k (r ∙ q)

  pub kept : (lower_walk m s (ceilings_at m s p v)).end ≡ done → Kept (view m s) (ceilings_at m s p v) (kept_rows (view m s) (ceilings_at m s p v))
  kept ok = kept_rows_kept (view m s) (ceilings_at m s p v) (walked m s (ceilings_at m s p v) ok) (walked_whole m s (ceilings_at m s p v) ok) offers_apart

pub kept_meant : KeptMeant
kept_meant m s p v ok rows = (
  (λ e. subst (Kept (view m s) (ceilings_at m s p v)) (sym e) (kept m s p v ok)),
  (λ k. kept_once (view m s) (ceilings_at m s p v) rows (kept_rows (view m s) (ceilings_at m s p v)) k (kept m s p v ok)),
)
