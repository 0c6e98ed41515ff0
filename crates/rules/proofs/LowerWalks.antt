-- Lower's own walk: what its sheet holds, when it is done, and what it shows if it is not. Assumes nothing.
use Rattle.std.proofs.Common.{◌≡◌, ℕ, zero, suc, ◌<◌, ◌≤◌, Bool, true, false, cond, ◌⊎◌, List, [], ◌∷◌, ◌++◌, length, take, Some, sym, refl, ap, ◌∙◌, subst, inl, inr, ⊎_elim, true≢false, arith}
use Rattle.std.specs.List.{slice_get, AllByRecursion}
use Rattle.std.proofs.lemmas.Bool.{cases_Bool}
use Rattle.rules.specs.Names.{ModuleVersion, has, ◌∈◌, Distinct}
use Rattle.rules.specs.Causes.{Fault, is_missing}
use Rattle.rules.specs.Sources.{found, fault, Meaning}
use Rattle.rules.specs.Projects.{State, main_row, view, remaining}
use Rattle.rules.specs.Walks.{Place, module_versions, written, End, done, stopped, no_room, Walked, walk, first_sheet}
use Rattle.rules.specs.Lowers.{Above, offers, Listed, Offered, Ahead, OffersFirst, Missing, Passes, Met, offered, passed, Faultless, FewMet, ManyMet, lower_ask, lower_walk, LowerSheet, LowerStopped, at_listing, at_place}
use Rattle.rules.proofs.Members.{member_left, member_right, distinct_push, distinct_length}
use Rattle.rules.proofs.Walks.{Run, run_of, run_keeps, run_grows, run_answers, run_before, run_stopped, run_no_room, run_room, KeptOn, placed, nth_within, nth_pushed, place_of, module_versions_pushed, written_keeps, written_holds, written_members, Answered}
use Rattle.rules.proofs.Sheets.{nth_first, first_nth, Traced, traced_main, traced_first, traced_next, sheet_right, places_all, length_module_versions}
use Rattle.rules.proofs.Reached.{required_apart}
use Rattle.rules.proofs.Offers.{Ordered, ordered_front, offers_offered, offered_offers, offers_append, Offering, unlisted, overfull, all_offered, offering, lower_given, lower_asks, lower_faults, lower_passes, lower_faulted}

-- the order of the offers on a sheet

first_push : (sheet : List Place) (x : ModuleVersion) (k : ℕ) → ((i : ℕ) (q : Place) → 0 < i → slice_get sheet i ≡ Some q → k ≡ 0 → (q.from ≡ 0) × Ahead q.row x)
    → OffersFirst sheet → OffersFirst (sheet ++ placed x k ∷ [])
first_push sheet x k ahead old i j q r pos lt ni nj z = by_later (nth_pushed sheet (placed x k) j r nj)
  where
    by_earlier : (j ≡ length sheet) × (placed x k ≡ r) → (slice_get sheet i ≡ Some q) ⊎ ((i ≡ length sheet) × (placed x k ≡ q)) → (q.from ≡ 0) × Ahead q.row r.row
    by_earlier (e, same) (inl n) = subst (λ w. (q.from ≡ 0) × Ahead q.row w.row) same (ahead i q pos n (ap (λ w. w.from) same ∙ z))
    by_earlier (e, same) (inr (d, s)) = absurd (omega arith)

    by_later : (slice_get sheet j ≡ Some r) ⊎ ((j ≡ length sheet) × (placed x k ≡ r)) → (q.from ≡ 0) × Ahead q.row r.row
    by_later (inl n) =
        ⊎_elim (λ h. old i j q r pos lt h n z) (λ h. absurd (omega (arith, h.0, nth_within sheet j r n))) (nth_pushed sheet (placed x k) i q ni)
    by_later (inr h) = by_earlier h (nth_pushed sheet (placed x k) i q ni)

written_first : (xs : List ModuleVersion) (sheet : List Place) → Ordered xs → ((i : ℕ) (r : Place) → 0 < i → slice_get sheet i ≡ Some r → (r.from ≡ 0) × AllByRecursion (Ahead r.row) xs)
    → OffersFirst sheet → OffersFirst (written 0 xs sheet)
written_first [] sheet o h f = f
written_first (x ∷ xs) sheet o h f = go (λ w. written_first xs w o.1) (has (module_versions sheet) x)
  where
    before : (i : ℕ) (r : Place) → 0 < i → slice_get sheet i ≡ Some r → (r.from ≡ 0) × AllByRecursion (Ahead r.row) xs
    before i r p n = let (z, a) = h i r p n in (z, a.1)

    after : (i : ℕ) (r : Place) → 0 < i → slice_get (sheet ++ placed x 0 ∷ []) i ≡ Some r → (r.from ≡ 0) × AllByRecursion (Ahead r.row) xs
    after i r p n =
        ⊎_elim (before i r p) (λ (e, same). subst (λ (w : Place). (w.from ≡ 0) × AllByRecursion (Ahead w.row) xs) same (refl, o.0)) (nth_pushed sheet (placed x 0) i r n)

    go : ((w : List Place) → ((i : ℕ) (r : Place) → 0 < i → slice_get w i ≡ Some r → (r.from ≡ 0) × AllByRecursion (Ahead r.row) xs) → OffersFirst w → OffersFirst (written 0 xs w))
        → (b : Bool) → OffersFirst (written 0 xs (cond b sheet (sheet ++ placed x 0 ∷ [])))
    go on true = on sheet before f
    go on false = on (sheet ++ placed x 0 ∷ []) after (first_push sheet x 0 (λ i q p n z. let (e, a) = h i q p n in (e, a.0)) f)

first_taken : (k : ℕ) (sheet : List Place) → OffersFirst sheet → OffersFirst (take k sheet)
first_taken k sheet f i j q r pos lt ni nj = f i j q r pos lt (nth_first k sheet i q ni).0 (nth_first k sheet j r nj).0

-- the walk

module _ (m : Meaning) (s : State) (cs : List ModuleVersion) where
  abbrev layer : Meaning
  layer = (view m s).layer

  abbrev first : List Place
  first = written 0 (offers layer cs) (first_sheet s)

  abbrev sheet : List Place
  sheet = (lower_walk m s cs).sheet

  -- it ends at a listing that is no list, or at a sheet that is full, or has all offers written and goes on from place 1
  pub data LowerBegun : List Place → End → Type 0 where
    no_listing : (front back : List ModuleVersion) (c : ModuleVersion) {f : Fault} → cs ≡ front ++ c ∷ back → Listed layer front → layer.listing c.path ≡ fault f
        → LowerBegun (written 0 (offers layer front) (first_sheet s)) (stopped 0 f)
    no_space : (front back : List ModuleVersion) → cs ≡ front ++ back → 256 < length (written 0 (offers layer front) (first_sheet s))
        → LowerBegun (written 0 (offers layer front) (first_sheet s)) no_room
    walks : {last : List Place} {e : End} → Listed layer cs → length first ≤ 256 → Run (lower_ask (view m s) cs) 1 first last e → LowerBegun last e

  lower_begun : LowerBegun sheet (lower_walk m s cs).end
  unfolding lower_walk
  lower_begun = of (lower_walk m s cs) (offering layer (walk (lower_ask (view m s) cs) 255 1) cs (first_sheet s) (omega arith))
    where
      of : (w : Walked) → Offering layer (walk (lower_ask (view m s) cs) 255 1) cs (first_sheet s) w → LowerBegun w.sheet w.end
      of w (unlisted front back c q ls g is) = subst (λ v. LowerBegun v.sheet v.end) (sym is) (no_listing front back c q ls g)
      of w (overfull front back q h is) = subst (λ v. LowerBegun v.sheet v.end) (sym is) (no_space front back q h)
      of w (all_offered ls h is) = subst (λ v. LowerBegun v.sheet v.end) (sym is) (walks ls h (run_of (lower_ask (view m s) cs) 255 1 first refl h))

  in_front : (front back : List ModuleVersion) → cs ≡ front ++ back → offers layer cs ≡ offers layer front ++ offers layer back
  in_front front back q = ap (offers layer) q ∙ offers_append layer front back

  begun_keeps : (I : List Place → Type 0) → ((w : List Place) (x : ModuleVersion) → x ∈ offers layer cs → (x ∈ module_versions w → ⊥) → I w → I (w ++ placed x 0 ∷ []))
      → KeptOn (lower_ask (view m s) cs) 1 I → {last : List Place} {e : End} → LowerBegun last e → I (first_sheet s) → I last
  begun_keeps I start step (no_listing front back c q ls g) i =
      written_keeps I 0 (offers layer front) (λ w x h. start w x (rw (in_front front (c ∷ back) q) (member_left (offers layer front) (offers layer (c ∷ back)) x h))) (first_sheet s) i
  begun_keeps I start step (no_space front back q h) i =
      written_keeps I 0 (offers layer front) (λ w x h. start w x (rw (in_front front back q) (member_left (offers layer front) (offers layer back) x h))) (first_sheet s) i
  begun_keeps I start step (walks ls h run) i = run_keeps (lower_ask (view m s) cs) 1 I step run (omega arith) (written_keeps I 0 (offers layer cs) start (first_sheet s) i)

  -- what its sheet holds, however it ends

  abbrev LowerTraced : List Place → Type 0
  LowerTraced = Traced (main_row s) (Offered layer cs) (Passes (view m s) cs)

  lower_traced : LowerTraced sheet
  lower_traced =
      begun_keeps LowerTraced
      (λ w x h new t. traced_first (main_row s) (Offered layer cs) (Passes (view m s) cs) w x (offers_offered layer cs x h) t)
      (λ k w r ys x l n a h new t. traced_next (main_row s) (Offered layer cs) (Passes (view m s) cs) w k r x l n (lower_passes (view m s) cs r.row x ys a h) t)
      lower_begun
      (traced_main (main_row s) (Offered layer cs) (Passes (view m s) cs))

  pub lower_distinct : Distinct (module_versions sheet)
  lower_distinct =
      begun_keeps (λ w. Distinct (module_versions w)) (λ w x h new d. rw module_versions_pushed (distinct_push (module_versions w) x d new))
      (λ k w r ys x l n a h new d. rw module_versions_pushed (distinct_push (module_versions w) x d new)) lower_begun (λ h. h, tt)

  lower_first : Ordered (offers layer cs) → {last : List Place} {e : End} → LowerBegun last e → OffersFirst last
  lower_first o b = go b
    where
      nothing_there : (i : ℕ) (r : Place) → 0 < i → slice_get (first_sheet s) i ≡ Some r → ⊥
      nothing_there zero r p n = omega arith
      nothing_there (suc i) r p n = let z : ◌≡◌ {A = ℕ} 0 1 = cc in omega arith

      at_first : (xs : List ModuleVersion) → Ordered xs → OffersFirst (written 0 xs (first_sheet s))
      at_first xs p = written_first xs (first_sheet s) p (λ i r pos n. absurd (nothing_there i r pos n)) (λ i j q r pos lt ni nj z. absurd (nothing_there i q pos ni))

      front_ordered : (front back : List ModuleVersion) → cs ≡ front ++ back → Ordered (offers layer front)
      front_ordered front back q = ordered_front (offers layer front) (offers layer back) (subst Ordered (in_front front back q) o)

      go : {last : List Place} {e : End} → LowerBegun last e → OffersFirst last
      go (no_listing front back c q ls g) = at_first (offers layer front) (front_ordered front (c ∷ back) q)
      go (no_space front back q h) = at_first (offers layer front) (front_ordered front back q)
      go (walks ls h run) =
          run_keeps (lower_ask (view m s) cs) 1 OffersFirst (λ k w r ys x l n a h new f. first_push w x k (λ i q pos e z. absurd (omega arith)) f) run (omega arith) (at_first (offers layer cs) o)

  pub lower_sheet : Ordered (offers layer cs) → LowerSheet m s cs (take 256 sheet)
  lower_sheet o = record {
    places = sheet_right (main_row s) (Offered layer cs) (Passes (view m s) cs) sheet lower_traced lower_distinct;
    offers_first = first_taken 256 sheet (lower_first o lower_begun);
  }

  -- every place but the first is met
  place_met : (i : ℕ) (r : Place) → slice_get sheet (suc i) ≡ Some r → Met (view m s) cs r.row
  place_met = places_all (main_row s) (Offered layer cs) (Passes (view m s) cs) (Met (view m s) cs) (λ x h. offered h) (λ x y h p. passed h p) sheet lower_traced

  pub sheet_met : (x : ModuleVersion) → x ∈ module_versions sheet → (x ≡ main_row s) ⊎ Met (view m s) cs x
  sheet_met x h = go (place_of sheet x h)
    where
      go : (i : ℕ) × (r : Place) × (slice_get sheet i ≡ Some r) × (x ≡ r.row) → (x ≡ main_row s) ⊎ Met (view m s) cs x
      go (zero, r, n, e) = let same : placed (main_row s) 0 ≡ r = cc lower_traced.0 in inl (e ∙ ap (λ w. w.row) (sym same))
      go (suc i, r, n, e) = inr (rw e (place_met i r n))

  -- what it shows where it is not done

  pub lower_stopped : (p : ℕ) (f : Fault) → (lower_walk m s cs).end ≡ stopped p f → LowerStopped m s cs (take 256 sheet) p f
  lower_stopped p f = go lower_begun (λ i r e. e)
    where
      by_place : (k : ℕ) → 1 ≤ k → k < 256 → (r : Place) → slice_get sheet k ≡ Some r → lower_ask (view m s) cs r.row ≡ fault f → LowerStopped m s cs (take 256 sheet) k f
      by_place zero l b r n a = absurd (omega arith)
      by_place (suc k) l b r n a = let (low, e, other) = lower_faulted (view m s) cs r.row f a in at_place r (first_nth 256 sheet (suc k) r n b) (place_met k r n) low e other

      go : {last : List Place} {e : End} → LowerBegun last e → ((i : ℕ) (r : Place) → slice_get last i ≡ Some r → slice_get sheet i ≡ Some r) → e ≡ stopped p f → LowerStopped m s cs (take 256 sheet) p f
      go (no_listing front back c {f = g} q ls h) on t =
          let gf : g ≡ f = cc in
          let zp : 0 ≡ p = cc in
          at_listing front back c q ls (h ∙ ap fault gf) (sym zp)
      go (no_space front back q h) on t = let z : ◌≡◌ {A = ℕ} 0 1 = cc in absurd (omega arith)
      go (walks {last} {e} ls h run) on t =
          let (l, (r, n, a)) = run_stopped (lower_ask (view m s) cs) run p f t in
          let short = run_room (lower_ask (view m s) cs) run h (λ u. let z : ◌≡◌ {A = ℕ} 0 1 = cc in omega arith) in
          by_place p l (omega (arith, nth_within last p r n, short)) r (on p r n) a

  -- before the place where it stops nothing that was questioned has a fault, other than that it is missing
  pub faultless_before : (p : ℕ) (f : Fault) → (lower_walk m s cs).end ≡ stopped p f → (i : ℕ) (r : Place) → 0 < i → i < p → slice_get sheet i ≡ Some r
      → (Above cs r.row → ⊥) → (g : Fault) → remaining (view m s) r.row ≡ fault g → is_missing g.cause ≡ true
  faultless_before p f t i r pos lt n low g e =
      ⊎_elim (λ k. k) (λ k. absurd (not_both (go lower_begun t n) (lower_faults (view m s) cs r.row g low e k))) (cases_Bool (is_missing g.cause))
    where
      Given : Type 0
      Given = (xs : List ModuleVersion) × (lower_ask (view m s) cs r.row ≡ found xs)

      not_both : Given → lower_ask (view m s) cs r.row ≡ fault g → ⊥
      not_both (xs, a) b = let z : ◌≡◌ {A = ℕ} 0 1 = cc in omega arith

      go : {last : List Place} {d : End} → LowerBegun last d → d ≡ stopped p f → slice_get last i ≡ Some r → Given
      go (no_listing front back c q ls h) u k = let zp : 0 ≡ p = cc in absurd (omega arith)
      go (no_space front back q h) u k = let z : ◌≡◌ {A = ℕ} 0 1 = cc in absurd (omega arith)
      go (walks ls h run) u k = let (xs, a, on) = run_before (lower_ask (view m s) cs) 1 run p f u (λ j q g l k. absurd (omega arith)) i r pos lt k in (xs, a)

  lower_no_room : {last : List Place} {e : End} → LowerBegun last e → e ≡ no_room → 256 < length last
  lower_no_room (no_listing front back c q ls h) t = let z : ◌≡◌ {A = ℕ} 0 1 = cc in absurd (omega arith)
  lower_no_room (no_space front back q h) t = h
  lower_no_room (walks ls h run) t = run_no_room (lower_ask (view m s) cs) run t

  pub over_256 : (lower_walk m s cs).end ≡ no_room → 256 < length sheet
  over_256 t = lower_no_room lower_begun t

  pub many_met : (lower_walk m s cs).end ≡ no_room → ManyMet m s cs
  many_met t = (module_versions sheet, omega (arith, length_module_versions sheet, over_256 t), lower_distinct, sheet_met)

  -- when it is done

  pub lower_done : Listed layer cs → Faultless (view m s) cs → FewMet m s cs → (lower_walk m s cs).end ≡ done
  lower_done ls faultless (xs, few, main, all) = go (lower_walk m s cs).end refl
    where
      whole : (p : ℕ) (f : Fault) → LowerStopped m s cs (take 256 sheet) p f → ⊥
      whole p f (at_listing front back c q fs h z) =
          let (vs, e) = ls c (rw q (member_right front (c ∷ back) c (inl refl))) in
          let z : ◌≡◌ {A = ℕ} 0 1 = cc in
          omega arith
      whole p f (at_place q n met low e other) = true≢false (sym (faultless q.row met low f e) ∙ other)

      go : (e : End) → (lower_walk m s cs).end ≡ e → (lower_walk m s cs).end ≡ done
      go done t = t
      go (stopped p f) t = absurd (whole p f (lower_stopped p f t))
      go no_room t =
          let (ys, long, apart, on) = many_met t in
          absurd (omega (arith, distinct_length ys xs apart (λ x h. ⊎_elim (λ e. rw e main) (all x) (on x h))))

  module _ (ok : (lower_walk m s cs).end ≡ done) where
    began : {last : List Place} {e : End} → LowerBegun last e → e ≡ done → Listed layer cs × (length first ≤ 256) × Run (lower_ask (view m s) cs) 1 first last done
    began (no_listing front back c q ls h) t = let z : ◌≡◌ {A = ℕ} 0 1 = cc in absurd (omega arith)
    began (no_space front back q h) t = let z : ◌≡◌ {A = ℕ} 0 1 = cc in absurd (omega arith)
    began (walks {last} ls h run) t = (ls, h, subst (Run (lower_ask (view m s) cs) 1 first last) t run)

    pub listings : Listed layer cs
    listings = (began lower_begun ok).0

    run : Run (lower_ask (view m s) cs) 1 first sheet done
    run = (began lower_begun ok).2

    pub few_rows : length sheet ≤ 256
    few_rows = run_room (lower_ask (view m s) cs) run (began lower_begun ok).1 (λ e. let z : ◌≡◌ {A = ℕ} 0 1 = cc in omega arith)

    pub main_on : main_row s ∈ module_versions sheet
    main_on = run_grows (lower_ask (view m s) cs) run (main_row s) (written_members 0 (offers layer cs) (first_sheet s) (main_row s) (inl refl))

    pub start_on : (x : ModuleVersion) → x ∈ offers layer cs → x ∈ module_versions sheet
    start_on x h = run_grows (lower_ask (view m s) cs) run x (written_holds 0 (offers layer cs) (first_sheet s) x h)

    -- a row of the sheet, off the main path, was answered by a list that is on the sheet
    answered_at : (x : ModuleVersion) → x ∈ module_versions sheet → (x.path ≡ s.main → ⊥) → Answered (lower_ask (view m s) cs) x sheet
    answered_at x h apart = go (place_of sheet x h)
      where
        go : (i : ℕ) × (r : Place) × (slice_get sheet i ≡ Some r) × (x ≡ r.row) → Answered (lower_ask (view m s) cs) x sheet
        go (zero, r, n, e) = let q : placed (main_row s) 0 ≡ r = cc lower_traced.0 in absurd (apart (ap (λ w. w.path) (e ∙ ap (λ w. w.row) (sym q))))
        go (suc i, r, n, e) = rw e (run_answers (lower_ask (view m s) cs) 1 run refl (λ j q g l k. absurd (omega arith)) (suc i) r (omega arith) n)

    -- one that is under its ceiling and there, has its list on the sheet
    pub has_list : (x : ModuleVersion) → x ∈ module_versions sheet → (x.path ≡ s.main → ⊥) → (Above cs x → ⊥) → (Missing (view m s) x → ⊥)
        → (xs : List ModuleVersion) × (remaining (view m s) x ≡ found xs) × ((y : ModuleVersion) → y ∈ xs → y ∈ module_versions sheet)
    has_list x h apart under there = let (xs, a, on) = answered_at x h apart in (xs, lower_given (view m s) cs x xs under there a, on)

    -- an offer stands from place 0
    pub offer_on : (x : ModuleVersion) → Offered layer cs x → placed x 0 ∈ sheet
    offer_on x h =
        run_keeps (lower_ask (view m s) cs) 1 (λ w. placed x 0 ∈ w) (λ k w r xs y l n a i new j. member_left w (placed y k ∷ []) (placed x 0) j) run (omega arith)
        (go (place_of first x (written_holds 0 (offers layer cs) (first_sheet s) x (offered_offers layer cs x h))))
      where
        member_nth : (w : List Place) (i : ℕ) (r : Place) → slice_get w i ≡ Some r → r ∈ w
        member_nth [] i r e = let z : ◌≡◌ {A = ℕ} 0 1 = cc in absurd (omega arith)
        member_nth (q ∷ qs) zero r e = inl (let same : q ≡ r = cc in sym same)
        member_nth (q ∷ qs) (suc i) r e = inr (member_nth qs i r e)

        all_from_0 : (i : ℕ) (r : Place) → slice_get first i ≡ Some r → r.from ≡ 0
        all_from_0 =
            written_keeps (λ w. (i : ℕ) (r : Place) → slice_get w i ≡ Some r → r.from ≡ 0) 0 (offers layer cs)
            (λ w y k new old i r n. ⊎_elim (old i r) (λ (e, same). ap (λ q. q.from) (sym same)) (nth_pushed w (placed y 0) i r n)) (first_sheet s) main_from_0
          where
            main_from_0 : (i : ℕ) (r : Place) → slice_get (first_sheet s) i ≡ Some r → r.from ≡ 0
            main_from_0 zero r n = let same : placed (main_row s) 0 ≡ r = cc in ap (λ q. q.from) (sym same)
            main_from_0 (suc i) r n = let z : ◌≡◌ {A = ℕ} 0 1 = cc in absurd (omega arith)

        go : (i : ℕ) × (r : Place) × (slice_get first i ≡ Some r) × (x ≡ r.row) → placed x 0 ∈ first
        go (i, r, n, e) = subst (λ q. q ∈ first) (λ j. record { row = sym e j; from = all_from_0 i r n j }) (member_nth first i r n)

    -- where no offer is on the main path, all that is met is on the sheet, and has no fault that is not excused
    module _ (off : (x : ModuleVersion) → Offered layer cs x → x.path ≡ s.main → ⊥) where
      met_apart : {x : ModuleVersion} → Met (view m s) cs x → x.path ≡ s.main → ⊥
      met_apart (offered {x} h) = off x h
      met_apart (passed {x} {y} h (low, q)) = required_apart (view m s) x y q

      pub met_on : {x : ModuleVersion} → Met (view m s) cs x → x ∈ module_versions sheet
      met_on (offered {x} h) = start_on x (offered_offers layer cs x h)
      met_on (passed {x} {y} h (low, q)) =
          let (xs, a, on) = answered_at x (met_on h) (met_apart h) in
          let (ys, e, k) = q in
          let b = lower_asks (view m s) cs x ys low e in
          let same : ys ≡ xs = cc in
          on y (subst (λ zs. y ∈ zs) same k)

      pub faultless : Faultless (view m s) cs
      faultless x h low f e = ⊎_elim (λ t. t) (λ t. absurd (answered_once (answered_at x (met_on h) (met_apart h)) (lower_faults (view m s) cs x f low e t))) (cases_Bool (is_missing f.cause))
        where
          answered_once : Answered (lower_ask (view m s) cs) x sheet → lower_ask (view m s) cs x ≡ fault f → ⊥
          answered_once (xs, a, on) b = let z : ◌≡◌ {A = ℕ} 0 1 = cc in omega arith

      pub few_met : FewMet m s cs
      few_met = (module_versions sheet, omega (arith, length_module_versions sheet, few_rows), main_on, λ x h. met_on h)
