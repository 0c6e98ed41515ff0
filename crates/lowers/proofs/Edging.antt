-- Edges, one after another, and what is known by them. Assumes nothing.
use Rattle.std.proofs.Common.{◌≡◌, ℕ, zero, suc, ◌+◌, ◌<◌, ◌≤◌, true, false, cond, not, ◌⊎◌, List, [], ◌∷◌, ◌++◌, map, length, get_or, take, set, Some, Ok, sym, refl, ap, ◌∙◌, subst, inl, inr, ⊎_elim, true≢false, arith}
use Rattle.std.specs.List.{slice_get}
use Rattle.std.proofs.lemmas.List.{length-append, length-map, length-take, get_or-set_same, get_or-set_other, map_more, take_all}
use Rattle.std.proofs.lemmas.List.Elements.{filter-append}
use Rattle.std.proofs.lemmas.List.Filters.{length-filter_both}
use Rattle.std.proofs.lemmas.Bool.{cases_lt}
use Rattle.rules.specs.Orders.{Bytes}
use Rattle.rules.specs.Names.{ModuleVersion, same_path, ◌∈◌}
use Rattle.rules.specs.Sources.{found}
use Rattle.rules.specs.Projects.{View, off_main, remaining}
use Rattle.rules.specs.Walks as R
use Rattle.rules.specs.Walks.{module_versions, written, if_room, ended, done}
use Rattle.rules.specs.Lowers.{is_above, is_bad}
use Rattle.rules.proofs.Members.{member_left, member_right, member_either}
use Rattle.rules.proofs.Walks.{written_places}
use Rattle.modules.specs.Rows.{row_names}
use Rattle.modules.specs.declared.rows.Row.{Row}
use Rattle.walks.specs.Sheets.{EndsAs}
use Rattle.walks.proofs.Telling.{ok_ended}
use Rattle.walks.proofs.Walking.{place_of_row}
use Rattle.lowers.specs.declared.learned.Edge.{Edge}
use Rattle.lowers.specs.declared.learned.Learned.{Learned}
use Rattle.lowers.specs.Learned.{edges_in, is_marked, Edged, Cleared, Knows}

-- a sheet that goes on another
abbrev pub Extends : List ModuleVersion → List ModuleVersion → Type 0
Extends s t = (i : ℕ) (x : ModuleVersion) → slice_get s i ≡ Some x → slice_get t i ≡ Some x

-- what stands at a place lies in the list
pub nth_within : (xs : List ModuleVersion) (i : ℕ) (x : ModuleVersion) → slice_get xs i ≡ Some x → i < length xs
nth_within [] i x e = let z : ◌≡◌ {A = ℕ} 0 1 = cc in omega arith
nth_within (y ∷ ys) zero x e = omega arith
nth_within (y ∷ ys) (suc i) x e = omega (arith, nth_within ys i x e)

pub place_row : (s : List R.Place) (i : ℕ) (r : R.Place) → slice_get s i ≡ Some r → slice_get (module_versions s) i ≡ Some r.row
place_row [] i r e = let z : ◌≡◌ {A = ℕ} 0 1 = cc in absurd (omega arith)
place_row (q ∷ qs) zero r e = let same : q ≡ r = cc in ap (λ (p : R.Place). Some p.row) same
place_row (q ∷ qs) (suc i) r e = place_row qs i r e

pub written_extends : (from : ℕ) (xs : List ModuleVersion) (s : List R.Place) → Extends (module_versions s) (module_versions (written from xs s))
written_extends from xs s i x e =
    let (r, n, q) = place_of_row s i x e in
    place_row (written from xs s) i r (written_places from xs s i r n) ∙ ap Some q

pub told_extends : (from : ℕ) (xs : List ModuleVersion) (s left : List R.Place) → EndsAs {A = Unit {0}} (if_room (ended done) (written from xs s)) (Ok tt) left → Extends (module_versions s) (module_versions left)
told_extends from xs s left t = let (l, e) = ok_ended (written from xs s) left tt t in subst (λ u. Extends (module_versions s) (module_versions u)) (sym e) (written_extends from xs s)

-- what was there stays
nth_one : (s : List ModuleVersion) (i : ℕ) → i < length s → (x : ModuleVersion) × (slice_get s i ≡ Some x)
nth_one [] i h = absurd (omega arith)
nth_one (x ∷ xs) zero h = (x, refl)
nth_one (x ∷ xs) (suc i) h = nth_one xs i (omega arith)

back : (s t : List ModuleVersion) → Extends s t → (i : ℕ) (x : ModuleVersion) → i < length s → slice_get t i ≡ Some x → slice_get s i ≡ Some x
back s t more i x h e = let (y, n) = nth_one s i h in let m = more i y n in let same : y ≡ x = cc in n ∙ ap Some same

-- ---- edges

module _ (at : ℕ) where
  pub edged_none : (es : List Edge) (s : List ModuleVersion) → Edged at es [] s es
  edged_none es s = record { old = λ e h. h; new = λ e h. inl h; all = λ y h. absurd h; few = omega arith }

  pub edged_one : (es : List Edge) (s : List ModuleVersion) (x : ModuleVersion) (to : ℕ) → slice_get s to ≡ Some x → Edged at es (x ∷ []) s (es ++ record { from = at; to = to } ∷ [])
  edged_one es s x to there = record {
    old = λ e h. member_left es (edge ∷ []) e h;
    new = λ e h. ⊎_elim (λ k. inl k) (λ k. inr (last e k)) (member_either es (edge ∷ []) e h);
    all = λ y h. (edge, member_right es (edge ∷ []) edge (inl refl), refl, ⊎_elim (λ p. there ∙ ap Some (sym p)) (λ k. absurd k) h);
    few = omega (arith, length-append es (edge ∷ []));
  }
    where
      edge : Edge
      edge = record { from = at; to = to }

      last : (e : Edge) → e ∈ (edge ∷ []) → (e.from ≡ at) × ((y : ModuleVersion) × (y ∈ (x ∷ [])) × (slice_get s e.to ≡ Some y))
      last e (inl p) = (ap (λ (d : Edge). d.from) p, (x, inl refl, ap (λ (d : Edge). slice_get s d.to) p ∙ there))
      last e (inr k) = absurd k

  pub edged_more : (a b c : List Edge) (xs ys s t : List ModuleVersion) → Edged at a xs s b → Edged at b ys t c → Extends s t → Edged at a (xs ++ ys) t c
  edged_more a b c xs ys s t p q more = record {
    old = λ e h. q.old e (p.old e h);
    new = λ e h. ⊎_elim
        (λ k. ⊎_elim (λ j. inl j) (λ (f, (y, i, n)). inr (f, (y, member_left xs ys y i, more e.to y n))) (p.new e k))
        (λ (f, (y, i, n)). inr (f, (y, member_right xs ys y i, n))) (q.new e h);
    all = λ y h. ⊎_elim (λ k. let (e, i, f, n) = p.all y k in (e, q.old e i, f, more e.to y n)) (λ k. q.all y k) (member_either xs ys y h);
    few = omega (arith, p.few, q.few, length-append xs ys);
  }

-- ---- what is known

module _ (w : View) (cs : List ModuleVersion) where
  -- the place `at` is bad
  pub knows_bad : (s : List R.Place) (l k : Learned) (at : ℕ) (x : ModuleVersion) → Knows w cs s l at → slice_get (module_versions s) at ≡ Some x → is_bad w cs x ≡ true
      → at < length l.marked → k.marked ≡ set l.marked at true → edges_in k ≡ edges_in l → Knows w cs s k (at + 1)
  knows_bad s l k at x h there bad fits m e = record {
    few = omega (arith, h.few, ap length e);
    edges = λ d i. h.edges d (subst (λ ds. d ∈ ds) e i);
    marked = λ i y lt n t. by_marked i y n t (cases_lt i at) lt;
    clear = λ i y pos lt n t. by_clear i y pos n t (cases_lt i at) lt;
    unseen = λ i up. mark_other i (λ q. absurd (omega arith)) ∙ h.unseen i (omega arith);
  }
    where
      mark_same : is_marked k at ≡ true
      mark_same = ap (λ bs. get_or bs at false) m ∙ get_or-set_same l.marked at true false fits

      mark_other : (i : ℕ) → (i ≡ at → ⊥) → is_marked k i ≡ is_marked l i
      mark_other i n = ap (λ bs. get_or bs i false) m ∙ get_or-set_other l.marked at i true false n

      by_marked : (i : ℕ) (y : ModuleVersion) → slice_get (module_versions s) i ≡ Some y → is_marked k i ≡ true → (i < at) ⊎ (at ≤ i) → i < at + 1 → is_bad w cs y ≡ true
      by_marked i y n t (inl lt) up = h.marked i y lt n (sym (mark_other i (λ q. absurd (omega arith))) ∙ t)
      by_marked i y n t (inr ge) up =
          let ia : i ≡ at = omega arith in
          let na : slice_get (module_versions s) at ≡ Some y = subst (λ j. slice_get (module_versions s) j ≡ Some y) ia n in
          let same : x ≡ y = cc in
          subst (λ z. is_bad w cs z ≡ true) same bad

      moved : (i : ℕ) (y : ModuleVersion) → Cleared w cs s l i y → Cleared w cs s k i y
      moved i y (a, (ys, r, all)) = (a, (ys, r, λ z j. let (d, o, f, n) = all z j in (d, subst (λ ds. d ∈ ds) (sym e) o, f, n)))

      by_clear : (i : ℕ) (y : ModuleVersion) → 1 ≤ i → slice_get (module_versions s) i ≡ Some y → is_marked k i ≡ false → (i < at) ⊎ (at ≤ i) → i < at + 1 → Cleared w cs s k i y
      by_clear i y pos n t (inl lt) up = moved i y (h.clear i y pos lt n (sym (mark_other i (λ q. absurd (omega arith))) ∙ t))
      by_clear i y pos n t (inr ge) up = let ia : i ≡ at = omega arith in absurd (true≢false (sym mark_same ∙ subst (λ j. is_marked k j ≡ false) ia t))

  -- the place `at` has a list
  pub knows_list : (s t : List R.Place) (l k : Learned) (at : ℕ) (x : ModuleVersion) (ys : List ModuleVersion) → Knows w cs s l at → slice_get (module_versions s) at ≡ Some x → at < length (module_versions s)
      → is_above cs x ≡ false → remaining w x ≡ found ys → length ys ≤ 64 → Extends (module_versions s) (module_versions t) → Edged at (edges_in l) ys (module_versions t) (edges_in k) → k.marked ≡ l.marked
      → Knows w cs t k (at + 1)
  knows_list s t l k at x ys h there in-s under answer short more added m = record {
    few = omega (arith, h.few, added.few);
    edges = λ e i. ⊎_elim
        (λ j. let (a, b, p, q, r) = h.edges e j in (a, b, more e.from a p, more e.to b q, r))
        (λ (f, (y, j, n)). (x, y, subst (λ o. slice_get (module_versions t) o ≡ Some x) (sym f) (more at x there), n, (ys, answer, j)))
        (added.new e i);
    marked = λ i y lt n u. by_marked i y n u (cases_lt i at) lt;
    clear = λ i y pos lt n u. by_clear i y pos n u (cases_lt i at) lt;
    unseen = λ i up. mark i ∙ h.unseen i (omega arith);
  }
    where
      mark : (i : ℕ) → is_marked k i ≡ is_marked l i
      mark i = ap (λ bs. get_or bs i false) m

      was : (i : ℕ) (y : ModuleVersion) → i < at + 1 → slice_get (module_versions t) i ≡ Some y → slice_get (module_versions s) i ≡ Some y
      was i y up n = back (module_versions s) (module_versions t) more i y (omega arith) n

      by_marked : (i : ℕ) (y : ModuleVersion) → slice_get (module_versions t) i ≡ Some y → is_marked k i ≡ true → (i < at) ⊎ (at ≤ i) → i < at + 1 → is_bad w cs y ≡ true
      by_marked i y n u (inl lt) up = h.marked i y lt (was i y up n) (sym (mark i) ∙ u)
      by_marked i y n u (inr ge) up = absurd (true≢false (sym u ∙ mark i ∙ h.unseen i ge))

      by_clear : (i : ℕ) (y : ModuleVersion) → 1 ≤ i → slice_get (module_versions t) i ≡ Some y → is_marked k i ≡ false → (i < at) ⊎ (at ≤ i) → i < at + 1 → Cleared w cs t k i y
      by_clear i y pos n u (inl lt) up =
          let (a, (zs, r, all)) = h.clear i y pos lt (was i y up n) (sym (mark i) ∙ u) in
          (a, (zs, r, λ z j. let (e, o, f, p) = all z j in (e, added.old e o, f, more e.to z p)))
      by_clear i y pos n u (inr ge) up =
          let ia : i ≡ at = omega arith in
          let na : slice_get (module_versions s) at ≡ Some y = subst (λ j. slice_get (module_versions s) j ≡ Some y) ia (was i y up n) in
          let same : x ≡ y = cc in
          subst (λ z. Cleared w cs t k i z) same (under, (ys, answer, λ z j. let (e, o, f, p) = added.all z j in (e, o, f ∙ sym ia, p)))

  -- nothing is known
  pub knows_none : (s : List R.Place) (l : Learned) → ((i : ℕ) → is_marked l i ≡ false) → edges_in l ≡ [] → Knows w cs s l 1
  knows_none s l clear e = record {
    few = omega (arith, ap length e);
    edges = λ d i. absurd (subst (λ ds. d ∈ ds) e i);
    marked = λ i x lt n t. absurd (true≢false (sym t ∙ clear i));
    clear = λ i x pos lt n t. absurd (omega arith);
    unseen = λ i up. clear i;
  }

-- ---- rows off the main path

pub off_short : (main : Bytes) (xs : List ModuleVersion) → length (off_main main xs) ≤ length xs
off_short main xs = omega (arith, length-filter_both (λ y. not (same_path y main)) (λ y. not (not (same_path y main))) (λ y. refl) xs)

pub off_off : (main : Bytes) (x : ModuleVersion) → false ≡ same_path x main → x ∷ [] ≡ off_main main (x ∷ [])
off_off main x e = ap (λ b. cond (not b) (x ∷ []) []) e

module _ (main : Bytes) (at : ℕ) (rows : List Row) where
  abbrev pub off_upto : ℕ → List ModuleVersion
  off_upto i = off_main main (map row_names (take i rows))

  pub upto_short : (i : ℕ) → length (off_upto i) ≤ i
  upto_short i = omega (arith, off_short main (map row_names (take i rows)), length-map (take i rows) row_names, length-take i rows)

  off_more : (i : ℕ) (x : Row) → i < length rows → x ≡ get_or rows i x → off_upto i ++ off_main main (row_names x ∷ []) ≡ off_upto (i + 1)
  off_more i x h read =
      ap (λ (y : Row). off_upto i ++ off_main main (row_names y ∷ [])) read
      ∙ sym (ap (off_main main) (map_more row_names rows i x h) ∙ filter-append (λ y. not (same_path y main)) (map row_names (take i rows)) (row_names (get_or rows i x) ∷ []))

  -- one row more
  pub edges_turn : (i : ℕ) (x : Row) → i < length rows → x ≡ get_or rows i x → (s left : List R.Place) → (a b c : List Edge)
      → Edged at a (off_upto i) (module_versions s) b → EndsAs {A = Unit {0}} (if_room (ended done) (written at (off_main main (row_names x ∷ [])) s)) (Ok tt) left
      → Edged at b (off_main main (row_names x ∷ [])) (module_versions left) c → Edged at a (off_upto (i + 1)) (module_versions left) c
  edges_turn i x h read s left a b c p t q =
      subst (λ ys. Edged at a ys (module_versions left) c) (off_more i x h read)
      (edged_more at a b c (off_upto i) (off_main main (row_names x ∷ [])) (module_versions s) (module_versions left) p q (told_extends at (off_main main (row_names x ∷ [])) s left t))

  pub edges_all : (i : ℕ) → length rows ≤ i → (s : List ModuleVersion) (a b : List Edge) → Edged at a (off_upto i) s b → Edged at a (off_main main (map row_names rows)) s b
  edges_all i h s a b p = subst (λ (ys : List Row). Edged at a (off_main main (map row_names ys)) s b) (take_all i rows h) p
