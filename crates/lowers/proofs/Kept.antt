-- That the rows which are kept are the kept rows of the rules. Assumes nothing.
use Rattle.std.proofs.Common.{◌≡◌, ℕ, zero, suc, ◌+◌, ◌-◌, ◌≤◌, Bool, true, false, cond, ◌⊎◌, List, [], ◌∷◌, ◌++◌, map, length, get_or, take, drop, replicate, Some, Ok, Err, Ordering, Less, Equal, Greater, sym, refl, ap, ◌∙◌, subst, inl, inr, ⊎_elim, true≢false, arith}
use Rattle.std.specs.List.{slice_get, AllByRecursion}
use Rattle.std.specs.Ordering.{is_lt, is_eq}
use Rattle.std.proofs.lemmas.List.{append-nil, append_assoc, take_all, take-map, length-take, drop-take}
use Rattle.std.proofs.lemmas.Bool.{or_cases, cases_Bool, and_from}
use Rattle.rules.specs.Texts.{every}
use Rattle.rules.specs.Paths.{path_order, is_path}
use Rattle.rules.specs.Versions.{is_version}
use Rattle.rules.specs.Names.{ModuleVersion, is_module_version, Below, has, ◌∈◌}
use Rattle.rules.specs.Causes.{Fault, Refusal, is_missing}
use Rattle.rules.specs.Sources.{Answer, found, fault, Lawful, Meaning}
use Rattle.rules.specs.Projects.{View, main_row, remaining}
use Rattle.rules.specs.Tables.{keep, entered_by, entered_all}
use Rattle.rules.specs.Rows.{path_of, higher, with_row, table}
use Rattle.rules.specs.Walks as R
use Rattle.rules.specs.Walks.{module_versions, written, Walked, End, done, stopped, no_room, ended, walk, first_sheet}
use Rattle.rules.specs.Lowers.{Above, is_above, is_bad, is_missing_answer, Missing, Leads, itself, through, Allowed, Kept, Ahead, offers, offers_written, kept_rows, lower_ask}
use Rattle.rules.proofs.Order.{equal_from_test, before_not_equal, paths, versions}
use Rattle.rules.proofs.Members.{member_either, all_member, all_from_members, member_from_has}
use Rattle.rules.proofs.Rows.{table_was, table_stands, table_ascending}
use Rattle.rules.proofs.Reached.{required_apart}
use Rattle.rules.proofs.Offers.{above_from_test, test_from_above, Ordered, offers_offered, offered_offers, offers_was, offers_ordered, Offering, unlisted, overfull, all_offered, offering}
use Rattle.rules.proofs.Walks.{placed, run_of, run_keeps, run_room, nth_left, module_versions_pushed}
use Rattle.rules.proofs.Turns.{written_longer}
use Rattle.rules.proofs.Sheets.{length_module_versions}
use Rattle.rules.proofs.Marks.{Whole, kept_only}
use Rattle.rules.specs.Calls.{if_done}
use Rattle.causes.specs.Told.{refusal_of}
use Rattle.causes.specs.declared.refusal.Refusal as C
use Rattle.walks.specs.declared.place.Place.{Place}
use Rattle.walks.specs.Places.{place_of}
use Rattle.walks.specs.Sheets.{EndsAs, refused_by}
use Rattle.walks.specs.Views.{bare, seen_by, Formed}
use Rattle.walks.proofs.Telling.{ended_done, ends_by, ends_so}
use Rattle.walks.proofs.Walking.{place_of_row, formed_written}
use Rattle.lowers.specs.Lowered.{lower_walk_from}
use Rattle.lowers.specs.declared.ceilings.Ceilings.{Ceilings}
use Rattle.lowers.specs.Ceilings.{ceiling_rows}
use Rattle.lowers.specs.declared.learned.Edge.{Edge}
use Rattle.lowers.specs.declared.learned.Learned.{Learned}
use Rattle.lowers.specs.Learned.{edges_in, is_marked, Cleared, Knows}
use Rattle.lowers.specs.Spreads.{Narrow, LeadsToMark, here, along, SpreadOut, spared}
use Rattle.lowers.proofs.Looking.{ceilings_up, ceilings_formed}
use Rattle.lowers.proofs.Edging.{Extends, nth_within, place_row}
use Rattle.lowers.proofs.Offering.{followed, offers_followed}
use Rattle.lowers.proofs.Keeping.{with_first}

-- ---- lists by places

nth_member : (xs : List ModuleVersion) (i : ℕ) (x : ModuleVersion) → slice_get xs i ≡ Some x → x ∈ xs
nth_member [] i x e = let z : ◌≡◌ {A = ℕ} 0 1 = cc in absurd (omega arith)
nth_member (y ∷ ys) zero x e = inl (let q : y ≡ x = cc in sym q)
nth_member (y ∷ ys) (suc i) x e = inr (nth_member ys i x e)

member_nth : (xs : List ModuleVersion) (x : ModuleVersion) → x ∈ xs → (i : ℕ) × (slice_get xs i ≡ Some x)
member_nth [] x h = absurd h
member_nth (y ∷ ys) x (inl e) = (0, ap Some (sym e))
member_nth (y ∷ ys) x (inr h) = let (i, n) = member_nth ys x h in (suc i, n)

-- a list that goes on another begins with it
pub extends_front : (xs ys : List ModuleVersion) → Extends xs ys → take (length xs) ys ≡ xs
extends_front [] ys h = refl
extends_front (x ∷ xs) [] h = let n = h 0 x refl in let z : ◌≡◌ {A = ℕ} 0 1 = cc in absurd (omega arith)
extends_front (x ∷ xs) (y ∷ ys) h =
    let n = h 0 x refl in
    let same : y ≡ x = cc in
    ap (λ zs. y ∷ zs) (extends_front xs ys (λ i z e. h (suc i) z e)) ∙ ap (λ z. z ∷ xs) same

pub none_marked : (n i : ℕ) → get_or (replicate n false) i false ≡ false
none_marked zero i = refl
none_marked (suc n) zero = refl
none_marked (suc n) (suc i) = none_marked n i

-- ---- unmarked rows

module _ (mark : ℕ → Bool) where
  spared_was : (k : ℕ) (xs : List ModuleVersion) (x : ModuleVersion) → x ∈ spared mark k xs → (i : ℕ) × (slice_get xs i ≡ Some x) × (mark (k + i) ≡ false)
  spared_was k [] x h = absurd h
  spared_was k (y ∷ ys) x h = go (spared_was (k + 1) ys x) (mark k) refl h
    where
      later : (i : ℕ) × (slice_get ys i ≡ Some x) × (mark (k + 1 + i) ≡ false) → (i : ℕ) × (slice_get (y ∷ ys) i ≡ Some x) × (mark (k + i) ≡ false)
      later (i, n, t) = let e : k + 1 + i ≡ k + suc i = omega arith in (suc i, n, subst (λ j. mark j ≡ false) e t)

      go : (x ∈ spared mark (k + 1) ys → (i : ℕ) × (slice_get ys i ≡ Some x) × (mark (k + 1 + i) ≡ false)) → (b : Bool) → mark k ≡ b → x ∈ cond b (spared mark (k + 1) ys) (y ∷ spared mark (k + 1) ys)
          → (i : ℕ) × (slice_get (y ∷ ys) i ≡ Some x) × (mark (k + i) ≡ false)
      go on true t j = later (on j)
      go on false t (inl e) = let z : k ≡ k + 0 = omega arith in (0, ap Some (sym e), subst (λ j. mark j ≡ false) z t)
      go on false t (inr j) = later (on j)

  spared_holds : (k : ℕ) (xs : List ModuleVersion) (x : ModuleVersion) (i : ℕ) → slice_get xs i ≡ Some x → mark (k + i) ≡ false → x ∈ spared mark k xs
  spared_holds k [] x i n t = let z : ◌≡◌ {A = ℕ} 0 1 = cc in absurd (omega arith)
  spared_holds k (y ∷ ys) x zero n t = go (mark k) refl
    where
      same : y ≡ x
      same = cc

      go : (b : Bool) → mark k ≡ b → x ∈ cond b (spared mark (k + 1) ys) (y ∷ spared mark (k + 1) ys)
      go true e = let z : k + 0 ≡ k = omega arith in absurd (true≢false (sym e ∙ subst (λ j. mark j ≡ false) z t))
      go false e = inl (sym same)
  spared_holds k (y ∷ ys) x (suc i) n t = go (spared_holds (k + 1) ys x i n (let e : k + suc i ≡ k + 1 + i = omega arith in subst (λ j. mark j ≡ false) e t)) (mark k)
    where
      go : x ∈ spared mark (k + 1) ys → (b : Bool) → x ∈ cond b (spared mark (k + 1) ys) (y ∷ spared mark (k + 1) ys)
      go h true = h
      go h false = inr h

  spared_member : (k : ℕ) (xs : List ModuleVersion) (x : ModuleVersion) → x ∈ spared mark k xs → x ∈ xs
  spared_member k xs x h = let (i, n, t) = spared_was k xs x h in nth_member xs i x n

  spared_ordered : (k : ℕ) (xs : List ModuleVersion) → Ordered xs → Ordered (spared mark k xs)
  spared_ordered k [] o = tt
  spared_ordered k (x ∷ xs) o = go (spared_ordered (k + 1) xs o.1) (mark k)
    where
      go : Ordered (spared mark (k + 1) xs) → (b : Bool) → Ordered (cond b (spared mark (k + 1) xs) (x ∷ spared mark (k + 1) xs))
      go h true = h
      go h false = (all_from_members (Ahead x) (spared mark (k + 1) xs) (λ y j. all_member (Ahead x) xs o.0 y (spared_member (k + 1) xs y j)), h)

-- ---- the first of a path is the highest

abbrev first_all : List ModuleVersion → List ModuleVersion → List ModuleVersion
first_all = entered_all path_of path_order keep

first_higher : (x : ModuleVersion) (t : List ModuleVersion) → ((y : ModuleVersion) → y ∈ t → y.path ≡ x.path → Below x.version y.version) → with_first x t ≡ with_row x t
first_higher x [] h = refl
first_higher x (y ∷ ys) h = go (first_higher x ys (λ z k. h z (inr k))) (path_order x.path y.path) refl
  where
    go : with_first x ys ≡ with_row x ys → (o : Ordering) → path_order x.path y.path ≡ o
        → entered_by path_of path_order o keep x y ys (with_first x ys) ≡ entered_by path_of path_order o higher x y ys (with_row x ys)
    go on Less e = refl
    go on Equal e = ap (λ b. cond b y x ∷ ys) (sym (ap is_lt (h y (inl refl) (sym (equal_from_test paths x.path y.path (ap is_eq e))))))
    go on Greater e = ap (λ zs. y ∷ zs) on

first_was : (x : ModuleVersion) (t : List ModuleVersion) (y : ModuleVersion) → y ∈ with_first x t → (y ≡ x) ⊎ (y ∈ t)
first_was x [] y (inl e) = inl e
first_was x [] y (inr h) = absurd h
first_was x (a ∷ t) y h = go (first_was x t y) (path_order x.path a.path) h
  where
    go : (y ∈ with_first x t → (y ≡ x) ⊎ (y ∈ t)) → (o : Ordering) → y ∈ entered_by path_of path_order o keep x a t (with_first x t) → (y ≡ x) ⊎ ((y ≡ a) ⊎ (y ∈ t))
    go on Less (inl e) = inl e
    go on Less (inr k) = inr k
    go on Equal k = inr k
    go on Greater (inl e) = inr (inl e)
    go on Greater (inr k) = ⊎_elim (λ e. inl e) (λ j. inr (inr j)) (on k)

-- every row of t is ahead of all of xs
abbrev AllAhead : List ModuleVersion → List ModuleVersion → Type 0
AllAhead t xs = (y x : ModuleVersion) → y ∈ t → x ∈ xs → y.path ≡ x.path → Below x.version y.version

ahead_below : (y x : ModuleVersion) → Ahead y x → y.path ≡ x.path → Below x.version y.version
ahead_below y x (inl b) e = absurd (before_not_equal paths y.path x.path b e)
ahead_below y x (inr (p, v)) e = v

first_is_table : (t xs : List ModuleVersion) → Ordered xs → AllAhead t xs → first_all t xs ≡ entered_all path_of path_order higher t xs
first_is_table t [] o h = refl
first_is_table t (x ∷ xs) o h =
    first_is_table (with_first x t) xs o.1 ahead ∙ ap (λ u. entered_all path_of path_order higher u xs) (first_higher x t (λ y k. h y x k (inl refl)))
  where
    ahead : AllAhead (with_first x t) xs
    ahead y z k j e = ⊎_elim (λ same. ahead_below y z (subst (λ u. Ahead u z) (sym same) (all_member (Ahead x) xs o.0 z j)) e) (λ i. h y z i (inr j) e) (first_was x t y k)

-- ---- the rows that are written first

apart_ahead : (x y : ModuleVersion) → Ahead x y → x ≡ y → ⊥
apart_ahead x y (inl b) e = before_not_equal paths x.path y.path b (ap (λ (z : ModuleVersion). z.path) e)
apart_ahead x y (inr (p, v)) e = before_not_equal versions y.version x.version v (ap (λ (z : ModuleVersion). z.version) (sym e))

-- rows that are ordered, and none on the sheet, stand behind it as they are
pub written_fresh : (xs : List ModuleVersion) (s : List R.Place) → Ordered xs → ((x : ModuleVersion) → x ∈ xs → x ∈ module_versions s → ⊥) → module_versions (written 0 xs s) ≡ module_versions s ++ xs
written_fresh [] s o new = sym (append-nil (module_versions s))
written_fresh (x ∷ xs) s o new = go (written_fresh xs) (has (module_versions s) x) refl
  where
    on : (y : ModuleVersion) → y ∈ xs → y ∈ module_versions (s ++ placed x 0 ∷ []) → ⊥
    on y h k =
        ⊎_elim (λ j. new y (inr h) j) (⊎_elim (λ e. apart_ahead x y (all_member (Ahead x) xs o.0 y h) (sym e)) (λ z. z))
        (member_either (module_versions s) (x ∷ []) y (subst (λ zs. y ∈ zs) (module_versions_pushed s (placed x 0)) k))

    go : ((t : List R.Place) → Ordered xs → ((y : ModuleVersion) → y ∈ xs → y ∈ module_versions t → ⊥) → module_versions (written 0 xs t) ≡ module_versions t ++ xs)
        → (b : Bool) → has (module_versions s) x ≡ b → module_versions (written 0 xs (cond b s (s ++ placed x 0 ∷ []))) ≡ module_versions s ++ x ∷ xs
    go rest true e = absurd (new x (inl refl) (member_from_has (module_versions s) x e))
    go rest false e =
        rest (s ++ placed x 0 ∷ []) o.1 on ∙ ap (λ zs. zs ++ xs) (module_versions_pushed s (placed x 0)) ∙ append_assoc (module_versions s) (x ∷ []) xs

every_one : (xs : List ModuleVersion) → ((x : ModuleVersion) → x ∈ xs → is_module_version x ≡ true) → every is_module_version xs ≡ true
every_one [] h = refl
every_one (x ∷ xs) h = and_from _ _ (h x (inl refl)) (every_one xs (λ y k. h y (inr k)))

-- ---- how a walk ended, from what the code says

abbrev Next : Type 0
Next = List R.Place → Walked

-- what is refused does not go on
pub followed_not : (next : Next) (v : Walked) (r : Refusal) → Some r ≡ refused_by v.end → followed next v ≡ v
followed_not next v r q = go v.end q
  where
    go : (e : End) → Some r ≡ refused_by e → if_done e (next v.sheet) v ≡ v
    go done t = let z : ◌≡◌ {A = ℕ} 0 1 = cc in absurd (omega arith)
    go (stopped k f) t = refl
    go no_room t = refl

-- a walk from place 1 that is done goes on the sheet that it began with
module _ (ask : ModuleVersion → Answer (List ModuleVersion)) (s : List R.Place) (short : length s ≤ 256) (left : List R.Place) (t : EndsAs {A = Unit {0}} (walk ask 255 1 s) (Ok tt) left) where
  walk_short : length (walk ask 255 1 s).sheet ≤ 256
  walk_short = run_room ask (run_of ask 255 1 s refl short) short (λ e. let d = ended_done (walk ask 255 1 s).end t.refused in let z : ◌≡◌ {A = ℕ} 0 1 = cc in omega arith)

  walk_sheet : left ≡ (walk ask 255 1 s).sheet
  walk_sheet = t.items ∙ take_all 256 (walk ask 255 1 s).sheet walk_short

  pub walk_few : length left ≤ 256
  walk_few = omega (arith, ap length walk_sheet, walk_short)

  pub walk_extends : Extends (module_versions s) (module_versions left)
  walk_extends = subst (λ u. Extends (module_versions s) (module_versions u)) (sym walk_sheet) on
    where
      on : Extends (module_versions s) (module_versions (walk ask 255 1 s).sheet)
      on i x e =
          let (r, m, q) = place_of_row s i x e in
          place_row (walk ask 255 1 s).sheet i r (run_keeps ask 1 (λ u. slice_get u i ≡ Some r) (λ k u p ys y l o a h new j. nth_left u (placed y k ∷ []) i r j) (run_of ask 255 1 s refl short) (omega arith) m) ∙ ap Some q

-- ---- lower under ceilings

module _ (w : View) (law : Lawful w.layer) (over : Ceilings) (apart : AllByRecursion (λ c. c.path ≡ w.main → ⊥) (ceiling_rows over)) where
  abbrev cs : List ModuleVersion
  cs = ceiling_rows over

  abbrev base : List R.Place
  base = first_sheet (bare w.main)

  abbrev pub offered : List ModuleVersion
  offered = offers w.layer cs

  abbrev pub first : List R.Place
  first = written 0 offered base

  ordered : Ordered offered
  ordered = offers_ordered w.layer law.ascending cs (ceilings_up over)

  offered_apart : (x : ModuleVersion) → x ∈ offered → x.path ≡ w.main → ⊥
  offered_apart x h q = let (c, k, r) = offers_was w.layer cs x h in all_member (λ c. c.path ≡ w.main → ⊥) cs apart c k (r ∙ q)

  pub first_rows : module_versions first ≡ main_row (bare w.main) ∷ offered
  first_rows = written_fresh offered base ordered (λ x h k. ⊎_elim (λ e. offered_apart x h (ap (λ (z : ModuleVersion). z.path) e)) (λ z. z) k)

  offered_formed : (x : ModuleVersion) → x ∈ offered → is_module_version x ≡ true
  offered_formed x h =
      let (c, k, p, u, (vs, l, i)) = offers_offered w.layer cs x h in
      and_from _ _ (subst (λ q. is_path q ≡ true) p (all_member (λ c. is_path c.path ≡ true) cs (ceilings_formed over) c k)) (all_member (λ v. is_version v ≡ true) vs (law.versions_formed x.path vs l) x.version i)

  base_formed : Formed base
  base_formed zero r l e = absurd (omega arith)
  base_formed (suc i) r l e = let z : ◌≡◌ {A = ℕ} 0 1 = cc in absurd (omega arith)

  pub first_formed : Formed first
  first_formed = formed_written 0 offered base (all_from_members (λ x. is_module_version x ≡ true) offered offered_formed) base_formed

  -- what the code says of the offers
  abbrev pub Begun : List R.Place → Type 0
  Begun left = (left ≡ first) × (length first ≤ 256) × (lower_walk_from w cs ≡ walk (lower_ask w cs) 255 1 first)

  pub begun : (start left : List R.Place) → start ≡ base → EndsAs {A = Unit {0}} (offers_written w.layer (ended done) cs start) (Ok tt) left → Begun left
  unfolding lower_walk_from
  begun start left b t =
      go (offers_written w.layer (ended done) cs base) refl (offering w.layer (ended done) cs base (omega arith)) (subst (λ (u : List R.Place). EndsAs {A = Unit {0}} (offers_written w.layer (ended done) cs u) (Ok tt) left) b t)
    where
      go : (v : Walked) → offers_written w.layer (ended done) cs base ≡ v → Offering w.layer (ended done) cs base v → EndsAs {A = Unit {0}} v (Ok tt) left → Begun left
      go v e (unlisted front back c q ls g is) k = let r = k.refused ∙ ap (λ (u : Walked). refused_by u.end) is in let z : ◌≡◌ {A = ℕ} 0 1 = cc in absurd (omega arith)
      go v e (overfull front back q h is) k = let r = k.refused ∙ ap (λ (u : Walked). refused_by u.end) is in let z : ◌≡◌ {A = ℕ} 0 1 = cc in absurd (omega arith)
      go v e (all_offered ls h is) k =
          let j = subst (λ (u : Walked). EndsAs {A = Unit {0}} u (Ok tt) left) is k in (
            j.items ∙ take_all 256 first h,
            h,
            offers_followed w.layer (walk (lower_ask w cs) 255 1) cs base ∙ ap (followed (walk (lower_ask w cs) 255 1)) (e ∙ is),
          )

  pub not_begun : {A : Type 0} (s : C.Refusal) (start left : List R.Place) → start ≡ base → EndsAs {A = Unit {0}} (offers_written w.layer (ended done) cs start) (Err s) left → EndsAs {A = A} (lower_walk_from w cs) (Err s) left
  unfolding lower_walk_from
  not_begun {A} s start left b t =
      let k = subst (λ (u : List R.Place). EndsAs {A = Unit {0}} (offers_written w.layer (ended done) cs u) (Err s) left) b t in
      ends_by _ (offers_written w.layer (ended done) cs base) (Err s) left
      (offers_followed w.layer (walk (lower_ask w cs) 255 1) cs base ∙ followed_not (walk (lower_ask w cs) 255 1) (offers_written w.layer (ended done) cs base) (refusal_of s) k.refused) (ends_so _ s left k)

  pub begun_long : 1 ≤ length first
  begun_long = omega (arith, written_longer 0 offered base)

  -- the offers stand behind the main row
  pub front_offered : (o : ℕ) (ps : List Place) → o ≡ length first → Extends (module_versions first) (module_versions (map place_of ps)) → module_versions (map place_of (drop 1 (take o ps))) ≡ offered
  front_offered o ps is more = dropped (take o ps) ∙ ap (drop 1) (front ∙ first_rows)
    where
      dropped : (xs : List Place) → module_versions (map place_of (drop 1 xs)) ≡ drop 1 (module_versions (map place_of xs))
      dropped [] = refl
      dropped (x ∷ xs) = refl

      front : module_versions (map place_of (take o ps)) ≡ module_versions first
      front =
          ap module_versions (sym (take-map place_of o ps))
          ∙ sym (take-map (λ (r : R.Place). r.row) o (map place_of ps))
          ∙ ap (λ (j : ℕ). take j (module_versions (map place_of ps))) (is ∙ sym (length_module_versions first))
          ∙ extends_front (module_versions first) (module_versions (map place_of ps)) more

  pub knows_narrow : (s : List R.Place) (l : Learned) (n : ℕ) → Knows w cs s l n → length s ≤ 256 → Narrow (edges_in l)
  knows_narrow s l n knows few e h =
      let (x, y, p, q, r) = knows.edges e h in
      (omega (arith, nth_within (module_versions s) e.from x p, length_module_versions s), omega (arith, nth_within (module_versions s) e.to y q, length_module_versions s))

  -- after the walk: s is the sheet, l what was learned, and k the same with the marks spread
  module _ (s : List R.Place) (more : Extends (module_versions first) (module_versions s)) (few : length (module_versions s) ≤ 256) (l k : Learned) (knows : Knows w cs s l (length (module_versions s)))
      (spread : SpreadOut (edges_in l) l.marked k.marked) where
    abbrev rows : List ModuleVersion
    rows = module_versions s

    main_first : slice_get rows 0 ≡ Some (main_row (bare w.main))
    main_first = more 0 (main_row (bare w.main)) (ap (λ xs. slice_get xs 0) first_rows)

    offered_place : (i : ℕ) (x : ModuleVersion) → slice_get offered i ≡ Some x → slice_get rows (1 + i) ≡ Some x
    offered_place i x n = let e : 1 + i ≡ suc i = omega arith in subst (λ j. slice_get rows j ≡ Some x) (sym e) (more (suc i) x (ap (λ xs. slice_get xs (suc i)) first_rows ∙ n))

    -- a row off the main path is not at place 0
    later : (i : ℕ) (x : ModuleVersion) → slice_get rows i ≡ Some x → (x.path ≡ w.main → ⊥) → 1 ≤ i
    later zero x n off = let n0 = main_first in let same : main_row (bare w.main) ≡ x = cc in absurd (off (ap (λ (z : ModuleVersion). z.path) (sym same)))
    later (suc i) x n off = omega arith

    -- bad rows
    missing_there : (a : Answer (List ModuleVersion)) → is_missing_answer a ≡ true → (f : Fault) × (a ≡ fault f) × (is_missing f.cause ≡ true)
    missing_there (found xs) t = absurd (true≢false (sym t))
    missing_there (fault f) t = (f, refl, t)

    bad_meets : (x : ModuleVersion) → is_bad w cs x ≡ true → Above cs x ⊎ Missing w x
    bad_meets x t = ⊎_elim (λ h. inl (above_from_test cs x h)) (λ h. inr (missing_there (remaining w x) h)) (or_cases (is_above cs x) (is_missing_answer (remaining w x)) t)

    cleared_low : (i : ℕ) (x : ModuleVersion) → Cleared w cs s l i x → (Above cs x → ⊥) × (Missing w x → ⊥)
    cleared_low i x (a, (ys, r, all)) = (λ h. true≢false (sym (test_from_above cs x h) ∙ a), λ (f, e, c). let z : ◌≡◌ {A = ℕ} 0 1 = cc in omega arith)

    unmarked_before : (i : ℕ) → is_marked k i ≡ false → is_marked l i ≡ false
    unmarked_before i t = ⊎_elim (λ h. absurd (true≢false (sym (spread.spread.stays i h) ∙ t))) (λ h. h) (cases_Bool (is_marked l i))

    -- what stands at a place that is not marked is allowed
    unmarked_leads : {x y : ModuleVersion} → Leads w x y → (i : ℕ) → slice_get rows i ≡ Some x → 1 ≤ i → is_marked k i ≡ false → (Above cs y → ⊥) × (Missing w y → ⊥)
    unmarked_leads (itself {x}) i n pos t = cleared_low i x (knows.clear i x pos (nth_within rows i x n) n (unmarked_before i t))
    unmarked_leads (through {x} {y} q rest) i n pos t = unmarked_leads rest there.0.to there.3 (later there.0.to y there.3 (required_apart w x y q)) free
      where
        there : (e : Edge) × (e ∈ edges_in l) × (e.from ≡ i) × (slice_get rows e.to ≡ Some y)
        there =
            let (a, (ys, r, all)) = knows.clear i x pos (nth_within rows i x n) n (unmarked_before i t) in
            let (zs, e, h) = q in
            let same : zs ≡ ys = cc in
            all y (subst (λ us. y ∈ us) same h)

        free : is_marked k there.0.to ≡ false
        free = ⊎_elim
            (λ h. absurd (true≢false (sym (subst (λ j. is_marked k j ≡ true) there.2 (spread.closed there.0 there.1 h)) ∙ t)))
            (λ h. h) (cases_Bool (is_marked k there.0.to))

    -- what leads to a mark is not
    marked_bars : {i : ℕ} → LeadsToMark (edges_in l) l.marked i → (x : ModuleVersion) → slice_get rows i ≡ Some x → Allowed w cs x → ⊥
    marked_bars (here {i} t) x n free = ⊎_elim (free x itself).0 (free x itself).1 (bad_meets x (knows.marked i x (nth_within rows i x n) n t))
    marked_bars (along {e} h rest) x n free =
        let (a, b, p, q, r) = knows.edges e h in
        let same : a ≡ x = cc in
        marked_bars rest b q (λ y lead. free y (subst (λ z. Leads w z y) same (through r lead)))

    whole : Whole w cs rows
    whole = record {
      few = few;
      starts = λ x h. let (i, n) = member_nth offered x h in nth_member rows (1 + i) x (offered_place i x n);
      lists = λ x h off under there.
          let (i, n) = member_nth rows x h in
          by_mark x i n (later i x n off) under there (cases_Bool (is_marked l i));
    }
      where
        by_mark : (x : ModuleVersion) (i : ℕ) → slice_get rows i ≡ Some x → 1 ≤ i → (Above cs x → ⊥) → (Missing w x → ⊥) → (is_marked l i ≡ true) ⊎ (is_marked l i ≡ false)
            → (xs : List ModuleVersion) × (remaining w x ≡ found xs) × ((y : ModuleVersion) → y ∈ xs → y ∈ rows)
        by_mark x i n pos under there (inl t) = absurd (⊎_elim under there (bad_meets x (knows.marked i x (nth_within rows i x n) n t)))
        by_mark x i n pos under there (inr t) =
            let (a, (ys, r, all)) = knows.clear i x pos (nth_within rows i x n) n t in
            (ys, r, λ y h. let (e, o, f, p) = all y h in nth_member rows e.to y p)

    abbrev spares : List ModuleVersion
    spares = spared (is_marked k) 1 offered

    rows_kept : Kept w cs (table spares)
    rows_kept = record {
      ascending = table_ascending spares;
      allowed = λ x h.
          let (i, n, t) = spared_was (is_marked k) 1 offered x (table_was spares x h) in
          (offers_offered w.layer cs x (nth_member offered i x n), λ y lead. unmarked_leads lead (1 + i) (offered_place i x n) (omega arith) t);
      highest = λ x h free.
          let (i, n) = member_nth offered x (offered_offers w.layer cs x h) in
          let t = ⊎_elim (λ m. absurd (marked_bars (spread.spread.leads (1 + i) m) x (offered_place i x n) free)) (λ m. m) (cases_Bool (is_marked k (1 + i))) in
          table_stands spares x (spared_holds (is_marked k) 1 offered x i n t);
    }

    first_table : first_all [] spares ≡ table spares
    first_table = first_is_table [] spares (spared_ordered (is_marked k) 1 offered ordered) (λ y x h j e. absurd h)

    pub kept_is : entered_all path_of path_order keep [] (spared (is_marked k) 1 offered) ≡ kept_rows w cs
    kept_is = first_table ∙ kept_only w cs rows whole offered_apart (table spares) rows_kept

    pub kept_formed : every is_module_version (entered_all path_of path_order keep [] (spared (is_marked k) 1 offered)) ≡ true
    kept_formed = subst (λ xs. every is_module_version xs ≡ true) (sym first_table) (every_one (table spares) (λ x h. offered_formed x (spared_member (is_marked k) 1 offered x (table_was spares x h))))

  -- what the code says of the offers, and then of the walk
  module _ (start mid : List R.Place) (begins : start ≡ base) (offers_told : EndsAs {A = Unit {0}} (offers_written w.layer (ended done) cs start) (Ok tt) mid) where
    b : Begun mid
    b = begun start mid begins offers_told

    pub mid_long : 1 ≤ length mid
    mid_long = omega (arith, ap length b.0, begun_long)

    pub mid_formed : Formed mid
    mid_formed = subst Formed (sym b.0) first_formed

    module _ (m : Meaning) (same : m ≡ w.layer) where
      pub stopped_told : {A : Type 0} (s : C.Refusal) (left : List R.Place) → EndsAs {A = Unit {0}} (walk (lower_ask (seen_by w.main m) cs) 255 1 mid) (Err s) left → EndsAs {A = A} (lower_walk_from w cs) (Err s) left
      stopped_told {A} s left t =
          let k = subst (λ (q : Meaning). EndsAs {A = Unit {0}} (walk (lower_ask (seen_by w.main q) cs) 255 1 mid) (Err s) left) same t in
          ends_by _ (walk (lower_ask w cs) 255 1 first) (Err s) left b.2 (ends_so _ s left (subst (λ (u : List R.Place). EndsAs {A = Unit {0}} (walk (lower_ask w cs) 255 1 u) (Err s) left) b.0 k))

      module _ (left : List R.Place) (t : EndsAs {A = Unit {0}} (walk (lower_ask (seen_by w.main m) cs) 255 1 mid) (Ok tt) left) where
        told : EndsAs {A = Unit {0}} (walk (lower_ask w cs) 255 1 first) (Ok tt) left
        told =
            subst (λ (u : List R.Place). EndsAs {A = Unit {0}} (walk (lower_ask w cs) 255 1 u) (Ok tt) left) b.0
            (subst (λ (q : Meaning). EndsAs {A = Unit {0}} (walk (lower_ask (seen_by w.main q) cs) 255 1 mid) (Ok tt) left) same t)

        pub value_told : {A : Type 0} (x : A) → EndsAs {A = A} (lower_walk_from w cs) (Ok x) left
        value_told x = ends_by _ (walk (lower_ask w cs) 255 1 first) (Ok x) left b.2 (record { refused = told.refused; items = told.items })

        goes_on : Extends (module_versions first) (module_versions left)
        goes_on = walk_extends (lower_ask w cs) first b.1 left told

        few : length left ≤ 256
        few = walk_few (lower_ask w cs) first b.1 left told

        pub first_within : length mid ≤ length left
        first_within =
            omega (
              arith,
              ap length b.0,
              length_module_versions first,
              length_module_versions left,
              ap length (extends_front (module_versions first) (module_versions left) goes_on),
              length-take (length (module_versions first)) (module_versions left),
            )

        module _ (l : Learned) (knows : Knows (seen_by w.main m) cs left l (length left)) where
          known : Knows w cs left l (length left)
          known = subst (λ (q : Meaning). Knows (seen_by w.main q) cs left l (length left)) same knows

          pub narrow_told : Narrow (edges_in l)
          narrow_told = knows_narrow left l (length left) known few

          module _ (k : Learned) (spread : SpreadOut (edges_in l) l.marked k.marked) (ps : List Place) (held : map place_of ps ≡ left) (o : ℕ) (counts : o ≡ length mid) where
            abbrev kept_here : List ModuleVersion
            kept_here = entered_all path_of path_order keep [] (spared (is_marked k) 1 (module_versions (map place_of (take (o - 1) (drop 1 ps)))))

            front : o ≡ length first
            front = counts ∙ ap length b.0

            behind_main : take (o - 1) (drop 1 ps) ≡ drop 1 (take o ps)
            behind_main = let up : 1 + (o - 1) ≡ o = omega (arith, front, begun_long) in sym (drop-take 1 (o - 1) ps) ∙ ap (λ (j : ℕ). drop 1 (take j ps)) up

            here_is : kept_here ≡ entered_all path_of path_order keep [] (spared (is_marked k) 1 offered)
            here_is =
                ap (λ xs. entered_all path_of path_order keep [] (spared (is_marked k) 1 xs))
                (ap (λ (qs : List Place). module_versions (map place_of qs)) behind_main ∙ front_offered o ps front (subst (λ (u : List R.Place). Extends (module_versions first) (module_versions u)) (sym held) goes_on))

            all_known : Knows w cs left l (length (module_versions left))
            all_known = subst (λ (j : ℕ). Knows w cs left l j) (sym (length_module_versions left)) known

            short : length (module_versions left) ≤ 256
            short = omega (arith, few, length_module_versions left)

            pub kept_told : kept_here ≡ kept_rows w cs
            kept_told = here_is ∙ kept_is left goes_on short l k all_known spread

            pub formed_told : every is_module_version kept_here ≡ true
            formed_told = subst (λ xs. every is_module_version xs ≡ true) (sym here_is) (kept_formed left goes_on short l k all_known spread)
