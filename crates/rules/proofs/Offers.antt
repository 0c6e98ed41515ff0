-- What a lower offers and asks: ceilings, listings under the exclude layer, and remaining requirements off the main path. Assumes nothing.
use Rattle.std.proofs.Common.{◌≡◌, ℕ, ◌<◌, ◌≤◌, Bool, true, false, cond, ◌&&◌, ltb, List, [], ◌∷◌, ◌++◌, map, length, sym, refl, ap, ◌∙◌, subst, inl, inr, ⊎_elim, true≢false, arith}
use Rattle.std.specs.Ordering.{is_lt, is_le, is_eq}
use Rattle.std.specs.List.{AllByRecursion}
use Rattle.rules.proofs.Each.{each_mapped}
use Rattle.std.proofs.lemmas.List.{append_assoc}
use Rattle.std.proofs.lemmas.Bool.{and_parts, and_from, or_cases, or_left, or_right, ltb-true, ltb-false, cases_Bool}
use Rattle.rules.specs.Orders.{Bytes}
use Rattle.rules.specs.Paths.{path_order}
use Rattle.rules.specs.Versions.{version_order}
use Rattle.rules.specs.Names.{ModuleVersion, same_path, Before, Upto, ◌∈◌, at}
use Rattle.rules.specs.Rows.{AscendingRows, AscendingVersions}
use Rattle.rules.specs.Causes.{Fault, is_missing}
use Rattle.rules.specs.Sources.{Answer, found, fault, Meaning, narrowed, found_in}
use Rattle.rules.specs.Projects.{State, off_main, View, remaining, Requires}
use Rattle.rules.specs.Walks.{Place, written, stopped, no_room, Walked, ended}
use Rattle.rules.specs.Lists.{IsList}
use Rattle.rules.specs.Lowers.{ceiling_of, ceilings, OnOldPath, Above, is_above, offer, offers, Listed, Offered, Ahead, offer_written, offers_written, excused, Missing, Passes, lower_ask}
use Rattle.rules.proofs.Order.{equal_from_test, test_from_equal, before_from_less, Ways, ways, before, equal, after, upto_before, upto_equal, paths, versions}
use Rattle.rules.proofs.Turns.{written_append}
use Rattle.rules.proofs.Members.{module_same, member_left, member_right, member_either, all_member, all_from_members}

-- above a ceiling

pub above_from_test : (cs : List ModuleVersion) (x : ModuleVersion) → is_above cs x ≡ true → Above cs x
above_from_test [] x t = absurd (true≢false (sym t))
above_from_test (c ∷ cs) x t =
    ⊎_elim
    (λ h. let (p, v) = and_parts (is_eq (path_order c.path x.path)) (is_lt (version_order c.version x.version)) h in
    (c, inl refl, equal_from_test paths c.path x.path p, before_from_less versions c.version x.version v))
    (λ h. let (d, k, p, v) = above_from_test cs x h in (d, inr k, p, v))
    (or_cases (is_eq (path_order c.path x.path) && is_lt (version_order c.version x.version)) (is_above cs x) t)

pub test_from_above : (cs : List ModuleVersion) (x : ModuleVersion) → Above cs x → is_above cs x ≡ true
test_from_above [] x (c, h, p, v) = absurd h
test_from_above (d ∷ cs) x (c, inl e, p, v) =
    or_left _ _ (and_from _ _ (test_from_equal paths d.path x.path (ap (λ w. w.path) (sym e) ∙ p)) (ap is_lt (ap (λ w. version_order w.version x.version) (sym e) ∙ v)))
test_from_above (d ∷ cs) x (c, inr h, p, v) = or_right _ _ (test_from_above cs x (c, h, p, v))

-- at or under it
pub upto_ceiling : (cs : List ModuleVersion) (x c : ModuleVersion) → (Above cs x → ⊥) → c ∈ cs → c.path ≡ x.path → Upto x.version c.version
upto_ceiling cs x c n h p = go (ways versions x.version c.version)
  where
    go : Ways version_order x.version c.version → Upto x.version c.version
    go (before k) = upto_before versions x.version c.version k
    go (equal e) = upto_equal versions x.version c.version e
    go (after k) = absurd (n (c, h, p, k))

ceiling_path : (p v : Bytes) (x : ModuleVersion) → (ceiling_of p v x).path ≡ x.path
ceiling_path p v x = go (same_path x p)
  where
    go : (b : Bool) → (cond b (at x.path v) x).path ≡ x.path
    go true = refl
    go false = refl

mapped_was : (f : ModuleVersion → ModuleVersion) (xs : List ModuleVersion) (y : ModuleVersion) → y ∈ map f xs → (x : ModuleVersion) × (x ∈ xs) × (y ≡ f x)
mapped_was f [] y h = absurd h
mapped_was f (x ∷ xs) y (inl e) = (x, inl refl, e)
mapped_was f (x ∷ xs) y (inr h) = let (z, k, e) = mapped_was f xs y h in (z, inr k, e)

-- no ceiling is on the main path
pub ceilings_apart : (s : State) (p v : Bytes) (l : List ModuleVersion) → IsList s l → (c : ModuleVersion) → c ∈ ceilings p v l → c.path ≡ s.main → ⊥
ceilings_apart s p v l (xs, e, a, apart) c h q =
    let (x, k, f) = mapped_was (ceiling_of p v) xs c (subst (λ z. c ∈ ceilings p v z) e h) in
    all_member _ xs apart x k (sym (ceiling_path p v x) ∙ ap (λ w. w.path) (sym f) ∙ q)

-- the ceilings ascend as the list does
pub ceilings_ascend : (s : State) (p v : Bytes) (l : List ModuleVersion) → IsList s l → AscendingRows (ceilings p v l)
ceilings_ascend s p v l (xs, e, a, apart) = subst (λ z. AscendingRows (ceilings p v z)) (sym e) (under xs a)
  where
    below : (x : ModuleVersion) (ys : List ModuleVersion) → AllByRecursion (λ y. Before x.path y.path) ys → AllByRecursion (λ y. Before (ceiling_of p v x).path y.path) (map (ceiling_of p v) ys)
    below x ys h = each_mapped _ (ceiling_of p v) ys (all_from_members _ ys (λ y k. rw (ceiling_path p v x, ceiling_path p v y) (all_member _ ys h y k)))

    under : (ys : List ModuleVersion) → AscendingRows ys → AscendingRows (map (ceiling_of p v) ys)
    under [] h = tt
    under (y ∷ ys) h = (below y ys h.0, under ys h.1)

-- what is offered

offer_was : (c : ModuleVersion) (vs : List Bytes) (x : ModuleVersion) → x ∈ offer c vs → (x.path ≡ c.path) × (x.version ∈ vs) × Upto x.version c.version
offer_was c [] x h = absurd h
offer_was c (v ∷ vs) x h =
    ⊎_elim (λ k. let (p, i, u) = offer_was c vs x k in (p, inr i, u)) (go (is_le (version_order v c.version)) refl) (member_either (offer c vs) (cond (is_le (version_order v c.version)) (at c.path v ∷ []) []) x h)
  where
    go : (b : Bool) → is_le (version_order v c.version) ≡ b → x ∈ cond b (at c.path v ∷ []) [] → (x.path ≡ c.path) × (x.version ∈ (v ∷ vs)) × Upto x.version c.version
    go true t (inl e) = (ap (λ w. w.path) e, inl (ap (λ w. w.version) e), ap (λ w. is_le (version_order w.version c.version)) e ∙ t)
    go true t (inr z) = absurd z
    go false t z = absurd z

offer_holds : (c : ModuleVersion) (vs : List Bytes) (v : Bytes) → v ∈ vs → Upto v c.version → at c.path v ∈ offer c vs
offer_holds c [] v h u = absurd h
offer_holds c (w ∷ vs) v (inl e) u =
    member_right (offer c vs) (cond (is_le (version_order w c.version)) (at c.path w ∷ []) []) (at c.path v)
    (rw (sym (ap (λ z. is_le (version_order z c.version)) e) ∙ u) (inl (ap (at c.path) e)))
offer_holds c (w ∷ vs) v (inr h) u = member_left (offer c vs) (cond (is_le (version_order w c.version)) (at c.path w ∷ []) []) (at c.path v) (offer_holds c vs v h u)

module _ (n : Meaning) where
  in_listing : (a : Answer (List Bytes)) (v : Bytes) → v ∈ found_in a → (vs : List Bytes) × (a ≡ found vs) × (v ∈ vs)
  in_listing (found vs) v h = (vs, refl, h)
  in_listing (fault f) v h = absurd h

  pub offers_offered : (cs : List ModuleVersion) (x : ModuleVersion) → x ∈ offers n cs → Offered n cs x
  offers_offered [] x h = absurd h
  offers_offered (c ∷ cs) x h =
      ⊎_elim
      (λ k.
      let (p, i, u) = offer_was c (found_in (n.listing c.path)) x k in
      let (vs, e, j) = in_listing (n.listing c.path) x.version i in
      (c, inl refl, sym p, u, (vs, ap (λ q. n.listing q) p ∙ e, j)))
      (λ k. let (d, j, p, u, l) = offers_offered cs x k in (d, inr j, p, u, l))
      (member_either (offer c (found_in (n.listing c.path))) (offers n cs) x h)

  pub offers_was : (cs : List ModuleVersion) (x : ModuleVersion) → x ∈ offers n cs → OnOldPath cs x
  offers_was cs x h = let (c, k, p, u, l) = offers_offered cs x h in (c, k, p)

  offers_holds : (cs : List ModuleVersion) (c : ModuleVersion) → c ∈ cs → (vs : List Bytes) → n.listing c.path ≡ found vs
      → (v : Bytes) → v ∈ vs → Upto v c.version → at c.path v ∈ offers n cs
  offers_holds [] c h vs l v k u = absurd h
  offers_holds (d ∷ cs) c (inl same) vs l v k u =
      member_left (offer d (found_in (n.listing d.path))) (offers n cs) (at c.path v)
      (subst (λ w. at c.path v ∈ offer w (found_in (n.listing w.path))) same
      (subst (λ ws. at c.path v ∈ offer c ws) (sym (ap found_in l)) (offer_holds c vs v k u)))
  offers_holds (d ∷ cs) c (inr h) vs l v k u =
      member_right (offer d (found_in (n.listing d.path))) (offers n cs) (at c.path v) (offers_holds cs c h vs l v k u)

  pub offered_offers : (cs : List ModuleVersion) (x : ModuleVersion) → Offered n cs x → x ∈ offers n cs
  offered_offers cs x (c, h, p, u, (vs, l, i)) =
      subst (λ w. w ∈ offers n cs) (module_same (at c.path x.version) x p refl) (offers_holds cs c h vs (ap (λ q. n.listing q) p ∙ l) x.version i u)

  pub offers_append : (xs ys : List ModuleVersion) → offers n (xs ++ ys) ≡ offers n xs ++ offers n ys
  offers_append [] ys = refl
  offers_append (x ∷ xs) ys = ap (λ zs. offer x (found_in (n.listing x.path)) ++ zs) (offers_append xs ys) ∙ sym (append_assoc (offer x (found_in (n.listing x.path))) (offers n xs) (offers n ys))

-- their order

-- each is ahead of all that follow it
abbrev pub Ordered : List ModuleVersion → Type 0
Ordered [] = Unit {0}
Ordered (x ∷ xs) = AllByRecursion (Ahead x) xs × Ordered xs

ordered_append : (xs ys : List ModuleVersion) → Ordered xs → Ordered ys → ((x y : ModuleVersion) → x ∈ xs → y ∈ ys → Ahead x y) → Ordered (xs ++ ys)
ordered_append [] ys a b h = b
ordered_append (x ∷ xs) ys a b h = (
  all_from_members (Ahead x) (xs ++ ys) (λ z k. ⊎_elim (all_member (Ahead x) xs a.0 z) (h x z (inl refl)) (member_either xs ys z k)),
  ordered_append xs ys a.1 b (λ y z k. h y z (inr k)),
)

pub ordered_front : (xs ys : List ModuleVersion) → Ordered (xs ++ ys) → Ordered xs
ordered_front [] ys a = tt
ordered_front (x ∷ xs) ys a = (all_from_members (Ahead x) xs (λ z k. all_member (Ahead x) (xs ++ ys) a.0 z (member_left xs ys z k)), ordered_front xs ys a.1)

offer_ordered : (c : ModuleVersion) (vs : List Bytes) → AscendingVersions vs → Ordered (offer c vs)
offer_ordered c [] a = tt
offer_ordered c (v ∷ vs) a = go (is_le (version_order v c.version)) (offer_ordered c vs a.1)
  where
    go : (b : Bool) → Ordered (offer c vs) → Ordered (offer c vs ++ cond b (at c.path v ∷ []) [])
    go false o = ordered_append (offer c vs) [] o tt (λ x y h k. absurd k)
    go true o =
        ordered_append (offer c vs) (at c.path v ∷ []) o (tt, tt)
        (λ x y h k.
        let (p, i, u) = offer_was c vs x h in
        let same : y ≡ at c.path v = ⊎_elim (λ e. e) (λ z. absurd z) k in
        rw same (inr (p, all_member _ vs a.0 x.version i)))

pub offers_ordered : (n : Meaning) → ((p : Bytes) (vs : List Bytes) → n.listing p ≡ found vs → AscendingVersions vs) → (cs : List ModuleVersion) → AscendingRows cs → Ordered (offers n cs)
offers_ordered n up [] a = tt
offers_ordered n up (c ∷ cs) a =
    ordered_append (offer c (found_in (n.listing c.path))) (offers n cs) (offer_ordered c (found_in (n.listing c.path)) (up_in (n.listing c.path) refl)) (offers_ordered n up cs a.1)
    (λ x y h k.
    let (p, i, u) = offer_was c (found_in (n.listing c.path)) x h in
    let (d, j, q) = offers_was n cs y k in
    inl (rw (p, sym q) (all_member _ cs a.0 d j)))
  where
    up_in : (b : Answer (List Bytes)) → n.listing c.path ≡ b → AscendingVersions (found_in b)
    up_in (found vs) e = up c.path vs e
    up_in (fault f) e = tt

-- How the offers end: at a listing that is no list, at a sheet that is full, or with all of them written.
module _ (n : Meaning) (next : List Place → Walked) where
  pub data Offering (cs : List ModuleVersion) (sheet : List Place) (w : Walked) : Type 0 where
    unlisted : (front back : List ModuleVersion) (c : ModuleVersion) {f : Fault} → cs ≡ front ++ c ∷ back → Listed n front → n.listing c.path ≡ fault f
        → w ≡ ended (stopped 0 f) (written 0 (offers n front) sheet) → Offering cs sheet w
    overfull : (front back : List ModuleVersion) → cs ≡ front ++ back → 256 < length (written 0 (offers n front) sheet)
        → w ≡ ended no_room (written 0 (offers n front) sheet) → Offering cs sheet w
    all_offered : Listed n cs → length (written 0 (offers n cs) sheet) ≤ 256 → w ≡ next (written 0 (offers n cs) sheet) → Offering cs sheet w

  pub offering : (cs : List ModuleVersion) (sheet : List Place) → length sheet ≤ 256 → Offering cs sheet (offers_written n next cs sheet)
  offering [] sheet l = all_offered (λ c h. absurd h) l refl
  offering (c ∷ cs) sheet l = by_answer (offering cs) (n.listing c.path) refl
    where
      wrote : List Bytes → List Place
      wrote vs = written 0 (offer c vs) sheet

      at_once : (vs : List Bytes) → n.listing c.path ≡ found vs → (front : List ModuleVersion) → written 0 (offers n front) (wrote vs) ≡ written 0 (offers n (c ∷ front)) sheet
      at_once vs e front = sym (ap (λ a. written 0 (offer c (found_in a) ++ offers n front) sheet) e ∙ written_append 0 (offer c vs) (offers n front) sheet)

      further : (vs : List Bytes) → n.listing c.path ≡ found vs → (w : Walked) → Offering cs (wrote vs) w → Offering (c ∷ cs) sheet w
      further vs e w (unlisted front back d {f} q ls g is) =
          unlisted (c ∷ front) back d (ap (λ ds. c ∷ ds) q) (listed_too front ls) g (is ∙ ap (ended (stopped 0 f)) (at_once vs e front))
        where
          listed_too : (ds : List ModuleVersion) → Listed n ds → Listed n (c ∷ ds)
          listed_too ds ls d = ⊎_elim (λ same. (vs, ap (λ z. n.listing z.path) same ∙ e)) (ls d)
      further vs e w (overfull front back q h is) =
          overfull (c ∷ front) back (ap (λ ds. c ∷ ds) q) (rw (← at_once vs e front) h) (is ∙ ap (ended no_room) (at_once vs e front))
      further vs e w (all_offered ls h is) =
          all_offered (λ d. ⊎_elim (λ same. (vs, ap (λ z. n.listing z.path) same ∙ e)) (ls d)) (rw (← at_once vs e cs) h) (is ∙ ap next (at_once vs e cs))

      by_room : ((w : List Place) → length w ≤ 256 → Offering cs w (offers_written n next cs w)) → (vs : List Bytes) → n.listing c.path ≡ found vs → (b : Bool) → ltb 256 (length (wrote vs)) ≡ b
          → Offering (c ∷ cs) sheet (cond b (ended no_room (wrote vs)) (offers_written n next cs (wrote vs)))
      by_room on vs e true t = overfull (c ∷ []) cs refl (rw (← at_once vs e []) (ltb-true 256 (length (wrote vs)) t)) (ap (ended no_room) (at_once vs e []))
      by_room on vs e false t = further vs e (offers_written n next cs (wrote vs)) (on (wrote vs) (ltb-false 256 (length (wrote vs)) t))

      by_answer : ((w : List Place) → length w ≤ 256 → Offering cs w (offers_written n next cs w)) → (a : Answer (List Bytes)) → n.listing c.path ≡ a
          → Offering (c ∷ cs) sheet (offer_written (offers_written n next cs) c sheet a)
      by_answer on (fault f) e = unlisted [] cs c refl (λ d h. absurd h) e refl
      by_answer on (found vs) e = by_room on vs e (ltb 256 (length (wrote vs))) refl

-- remaining requirements

module _ (w : View) where
  pub available_no_fault : (x : ModuleVersion) (xs : List ModuleVersion) (f : Fault) → w.layer.requirements x ≡ found xs → remaining w x ≡ fault f → ⊥
  available_no_fault x xs f e q =
      let g : remaining w x ≡ found (off_main w.main xs) = ap (narrowed (off_main w.main)) e in
      let z : ◌≡◌ {A = ℕ} 0 1 = cc in
      omega arith

  -- what lower's walk was answered, where the row is neither above its ceiling nor missing
  pub lower_given : (cs : List ModuleVersion) (x : ModuleVersion) (ys : List ModuleVersion) → (Above cs x → ⊥) → (Missing w x → ⊥) → lower_ask w cs x ≡ found ys → remaining w x ≡ found ys
  lower_given cs x ys low there e = unbarred (is_above cs x) refl e
    where
      excuse : (f : Fault) → remaining w x ≡ fault f → (b : Bool) → is_missing f.cause ≡ b → cond b (found []) (fault f) ≡ found ys → remaining w x ≡ found ys
      excuse f r true t q = absurd (there (f, r, t))
      excuse f r false t q = let z : ◌≡◌ {A = ℕ} 0 1 = cc in absurd (omega arith)

      answer : (a : Answer (List ModuleVersion)) → remaining w x ≡ a → excused a ≡ found ys → remaining w x ≡ found ys
      answer (found xs) r q = r ∙ q
      answer (fault f) r q = excuse f r (is_missing f.cause) refl q

      unbarred : (b : Bool) → is_above cs x ≡ b → cond b (found []) (excused (remaining w x)) ≡ found ys → remaining w x ≡ found ys
      unbarred true t q = absurd (low (above_from_test cs x t))
      unbarred false t q = answer (remaining w x) refl q

  under_test : (cs : List ModuleVersion) (x : ModuleVersion) → (Above cs x → ⊥) → is_above cs x ≡ false
  under_test cs x low = ⊎_elim (λ t. absurd (low (above_from_test cs x t))) (λ t. t) (cases_Bool (is_above cs x))

  -- a row that is not above its ceiling is asked for, and what is not missing is answered as it is
  pub lower_asks : (cs : List ModuleVersion) (x : ModuleVersion) (ys : List ModuleVersion) → (Above cs x → ⊥) → remaining w x ≡ found ys → lower_ask w cs x ≡ found ys
  lower_asks cs x ys low e = ap (λ b. cond b (found []) (excused (remaining w x))) (under_test cs x low) ∙ ap excused e

  pub lower_faults : (cs : List ModuleVersion) (x : ModuleVersion) (f : Fault) → (Above cs x → ⊥) → remaining w x ≡ fault f → is_missing f.cause ≡ false → lower_ask w cs x ≡ fault f
  lower_faults cs x f low e other = ap (λ b. cond b (found []) (excused (remaining w x))) (under_test cs x low) ∙ ap excused e ∙ ap (λ b. cond b (found []) (fault f)) other

  -- what lower's walk is answered is passed on, and a fault is one
  pub lower_passes : (cs : List ModuleVersion) (x y : ModuleVersion) (ys : List ModuleVersion) → lower_ask w cs x ≡ found ys → y ∈ ys → Passes w cs x y
  lower_passes cs x y ys e h = by_test (is_above cs x) refl e
    where
      excuse : (f : Fault) → (b : Bool) → cond {A = Answer (List ModuleVersion)} b (found []) (fault f) ≡ found ys → Requires w x y
      excuse f true q = let none : [] ≡ ys = cc in absurd (subst (λ zs. y ∈ zs) (sym none) h)
      excuse f false q = let z : ◌≡◌ {A = ℕ} 0 1 = cc in absurd (omega arith)

      answer : (a : Answer (List ModuleVersion)) → remaining w x ≡ a → excused a ≡ found ys → Requires w x y
      answer (found xs) r q = (ys, r ∙ q, h)
      answer (fault f) r q = excuse f (is_missing f.cause) q

      by_test : (b : Bool) → is_above cs x ≡ b → cond b (found []) (excused (remaining w x)) ≡ found ys → Passes w cs x y
      by_test true t q = let none : [] ≡ ys = cc in absurd (subst (λ zs. y ∈ zs) (sym none) h)
      by_test false t q = (λ above. true≢false (sym (test_from_above cs x above) ∙ t), answer (remaining w x) refl q)

  pub lower_faulted : (cs : List ModuleVersion) (x : ModuleVersion) (f : Fault) → lower_ask w cs x ≡ fault f → (Above cs x → ⊥) × (remaining w x ≡ fault f) × (is_missing f.cause ≡ false)
  lower_faulted cs x f e = by_test (is_above cs x) refl e
    where
      excuse : (g : Fault) → remaining w x ≡ fault g → (b : Bool) → is_missing g.cause ≡ b → cond {A = Answer (List ModuleVersion)} b (found []) (fault g) ≡ fault f → (remaining w x ≡ fault f) × (is_missing f.cause ≡ false)
      excuse g r true t q = let z : ◌≡◌ {A = ℕ} 0 1 = cc in absurd (omega arith)
      excuse g r false t q = let same : g ≡ f = cc in (r ∙ q, subst (λ h. is_missing h.cause ≡ false) same t)

      answer : (a : Answer (List ModuleVersion)) → remaining w x ≡ a → excused a ≡ fault f → (remaining w x ≡ fault f) × (is_missing f.cause ≡ false)
      answer (found xs) r q = let z : ◌≡◌ {A = ℕ} 0 1 = cc in absurd (omega arith)
      answer (fault g) r q = excuse g r (is_missing g.cause) refl q

      by_test : (b : Bool) → is_above cs x ≡ b → cond b (found []) (excused (remaining w x)) ≡ fault f → (Above cs x → ⊥) × (remaining w x ≡ fault f) × (is_missing f.cause ≡ false)
      by_test true t q = let z : ◌≡◌ {A = ℕ} 0 1 = cc in absurd (omega arith)
      by_test false t q = let (r, o) = answer (remaining w x) refl q in (λ above. true≢false (sym (test_from_above cs x above) ∙ t), r, o)
