-- What is reached, and that a list's walk that is done has on its sheet just that. Assumes nothing.
use Rattle.std.proofs.Common.{◌≡◌, ℕ, zero, suc, ◌<◌, true, false, not, ◌⊎◌, List, [], ◌∷◌, take, Some, sym, refl, ap, ◌∙◌, subst, inl, inr, arith}
use Rattle.std.specs.List.{slice_get}
use Rattle.std.proofs.lemmas.Bool.{not-true}
use Rattle.rules.specs.Orders.{Bytes}
use Rattle.rules.specs.Names.{ModuleVersion, same_path, has, ◌∈◌, Distinct}
use Rattle.rules.specs.Causes.{Fault}
use Rattle.rules.specs.Sources.{Answer, found, fault, Meaning, narrowed, included}
use Rattle.rules.specs.Projects.{State, main_row, off_main, main_requirements, View, view, remaining, Requires, Chain, start, first, onward, Reached}
use Rattle.rules.specs.Walks.{Place, module_versions, done, stopped, list_walk, first_sheet, trail, trail_at}
use Rattle.rules.specs.Sheets.{ComesFrom, ListSheet, SheetsRight}
use Rattle.rules.proofs.Order.{apart_from_test, not_equal_test, paths}
use Rattle.rules.proofs.Members.{kept_member, kept_was}
use Rattle.rules.proofs.Walks.{Begun, begun_of, begun_keeps, begun_grows, begun_holds, begun_answers, begun_before, begun_distinct, placed, place_of, Answered}
use Rattle.rules.proofs.Sheets.{Traced, traced_main, traced_first, traced_next, first_traced, sheet_right}

pub off_main_apart : (main : Bytes) (x : ModuleVersion) → not (same_path x main) ≡ true → x.path ≡ main → ⊥
off_main_apart main x t = apart_from_test paths x.path main (not-true _ t)

-- no remaining requirement is on the main path
pub required_apart : (w : View) (x y : ModuleVersion) → Requires w x y → y.path ≡ w.main → ⊥
required_apart w x y (ys, e, h) = go (w.layer.requirements x) e
  where
    go : (a : Answer (List ModuleVersion)) → narrowed (off_main w.main) a ≡ found ys → y.path ≡ w.main → ⊥
    go (fault f) q = let z : ◌≡◌ {A = ℕ} 0 1 = cc in absurd (omega arith)
    go (found zs) q =
        let eq : ys ≡ off_main w.main zs = cc in
        off_main_apart w.main y (kept_was (λ v. not (same_path v w.main)) zs y (rw eq at h)).1

-- the main module's requirements

module _ (s : State) where
  pub main_required : (y : ModuleVersion) → y ∈ main_requirements s → (y ∈ s.rows) × (y.path ≡ s.main → ⊥)
  main_required y h =
      let (k, t) = kept_was (λ v. not (same_path v s.main)) (included s.exclusions s.rows) y h in
      ((kept_was (λ v. not (has s.exclusions v)) s.rows y k).0, off_main_apart s.main y t)

  pub required_by_main : (y : ModuleVersion) → y ∈ s.rows → has s.exclusions y ≡ false → (y.path ≡ s.main → ⊥) → y ∈ main_requirements s
  required_by_main y h free apart =
      kept_member (λ v. not (same_path v s.main)) (included s.exclusions s.rows) y
      (kept_member (λ v. not (has s.exclusions v)) s.rows y h (ap not free)) (ap not (not_equal_test paths y.path s.main apart))

module _ (m : Meaning) (s : State) where
  -- chains

  -- the last member of a chain is the main row, or off the main path
  abbrev pub Ends : List ModuleVersion → Type 0
  Ends [] = ⊥
  Ends (x ∷ []) = x ≡ main_row s
  Ends (x ∷ z ∷ xs) = x.path ≡ s.main → ⊥

  pub chain_ends : {xs : List ModuleVersion} → Chain m s xs → Ends xs
  chain_ends start = refl
  chain_ends (first {x} h) = (main_required s x h).1
  chain_ends (onward {x} {y} c q) = required_apart (view m s) x y q

  abbrev Last : (ModuleVersion → Type 0) → List ModuleVersion → Type 0
  Last P [] = ⊥
  Last P (x ∷ xs) = P x

  -- What holds of the main row and of what it requires, and goes on to each remaining requirement of another, holds of all that is reached.
  module _ (P : ModuleVersion → Type 0) (main : P (main_row s)) (rows : (y : ModuleVersion) → y ∈ main_requirements s → P y)
      (step : (x y : ModuleVersion) → (x.path ≡ s.main → ⊥) → P x → Requires (view m s) x y → P y) where
    chain_last : {xs : List ModuleVersion} → Chain m s xs → Last P xs
    chain_last start = main
    chain_last (first {x} h) = rows x h
    chain_last (onward {x} {y} c q) = step x y (chain_ends c) (chain_last c) q

    pub reached_all : (x : ModuleVersion) → Reached m s x → P x
    reached_all x (xs, c) = chain_last c

  pub reached_main : Reached m s (main_row s)
  reached_main = ([], start)

  pub reached_first : (x : ModuleVersion) → x ∈ main_requirements s → Reached m s x
  reached_first x h = (main_row s ∷ [], first h)

  -- on the main path only the main row is reached
  pub main_or_apart : (x : ModuleVersion) → Reached m s x → (x ≡ main_row s) ⊎ (x.path ≡ s.main → ⊥)
  main_or_apart = reached_all (λ x. (x ≡ main_row s) ⊎ (x.path ≡ s.main → ⊥)) (inl refl) (λ y h. inr (main_required s y h).1) (λ x y off h q. inr (required_apart (view m s) x y q))

  -- the walk

  abbrev pub ListBegun : List Place → Type 0
  ListBegun sheet = Begun (remaining (view m s)) (main_requirements s) (first_sheet s) sheet (list_walk m s).end

  pub list_begun : ListBegun (list_walk m s).sheet
  unfolding list_walk
  list_begun = begun_of (remaining (view m s)) (main_requirements s) (first_sheet s)

  pub sheet_distinct : Distinct (module_versions (list_walk m s).sheet)
  sheet_distinct = begun_distinct (remaining (view m s)) (main_requirements s) (first_sheet s) list_begun (λ h. h, tt)

  pub main_on_sheet : main_row s ∈ module_versions (list_walk m s).sheet
  main_on_sheet = begun_grows (remaining (view m s)) (main_requirements s) (first_sheet s) list_begun (main_row s) (inl refl)

  abbrev pub ListTraced : List Place → Type 0
  ListTraced = Traced (main_row s) (λ x. x ∈ main_requirements s) (Requires (view m s))

  pub traced : ListTraced (list_walk m s).sheet
  traced =
      begun_keeps (remaining (view m s)) (main_requirements s) (first_sheet s) ListTraced
      (λ sheet x h new t. traced_first (main_row s) (λ y. y ∈ main_requirements s) (Requires (view m s)) sheet x h t)
      (λ k sheet r ys x l n a h new t. traced_next (main_row s) (λ y. y ∈ main_requirements s) (Requires (view m s)) sheet k r x l n (ys, a, h) t)
      list_begun
      (traced_main (main_row s) (λ y. y ∈ main_requirements s) (Requires (view m s)))

  -- on any slice that has the places of such a sheet the from numbers lead back along a chain
  module _ (sheet slice : List Place) (t : ListTraced sheet) (on : (i : ℕ) (r : Place) → slice_get sheet i ≡ Some r → slice_get slice i ≡ Some r) where
    trail_main : (left : ℕ) → trail (suc left) slice 0 ≡ main_row s ∷ []
    unfolding trail
    trail_main left = ap (trail_at (trail left slice) 0) (on 0 (placed (main_row s) 0) t.0)

    pub trail_leads : (left place : ℕ) (r : Place) → suc place < left → slice_get sheet (suc place) ≡ Some r
        → (z : ModuleVersion) × (xs : List ModuleVersion) × (trail left slice (suc place) ≡ r.row ∷ z ∷ xs) × Chain m s (r.row ∷ z ∷ xs)
    unfolding trail
    trail_leads zero place r h n = absurd (omega arith)
    trail_leads (suc zero) place r h n = absurd (omega arith)
    trail_leads (suc (suc left)) place r h n = let (b, c) = t.1 place r n in go (λ j q. trail_leads (suc left) j q) r.from refl b c
      where
        at_place : trail (suc (suc left)) slice (suc place) ≡ r.row ∷ trail (suc left) slice r.from
        at_place = ap (trail_at (trail (suc left) slice) (suc place)) (on (suc place) r n)

        go : ((j : ℕ) (q : Place) → suc j < suc left → slice_get sheet (suc j) ≡ Some q
            → (z : ModuleVersion) × (xs : List ModuleVersion) × (trail (suc left) slice (suc j) ≡ q.row ∷ z ∷ xs) × Chain m s (q.row ∷ z ∷ xs))
            → (k : ℕ) → r.from ≡ k → k < suc place → ComesFrom (main_row s) (λ x. x ∈ main_requirements s) (Requires (view m s)) sheet k r.row
            → (z : ModuleVersion) × (xs : List ModuleVersion) × (trail (suc (suc left)) slice (suc place) ≡ r.row ∷ z ∷ xs) × Chain m s (r.row ∷ z ∷ xs)
        go back zero f b k = (main_row s, [], at_place ∙ ap (λ i. r.row ∷ trail (suc left) slice i) f ∙ ap (λ xs. r.row ∷ xs) (trail_main left), first k)
        go back (suc j) f b (q, nq, k) =
            let (z, xs, u, c) = back j q (omega arith) nq in
            (q.row, z ∷ xs, at_place ∙ ap (λ i. r.row ∷ trail (suc left) slice i) f ∙ ap (λ ys. r.row ∷ ys) u, onward c k)

    -- from every place
    pub trail_chained : (i : ℕ) (r : Place) → slice_get sheet i ≡ Some r → (xs : List ModuleVersion) × (trail (suc i) slice i ≡ r.row ∷ xs) × Chain m s (r.row ∷ xs)
    trail_chained zero r n =
        let same : placed (main_row s) 0 ≡ r = cc t.0 in
        subst (λ (q : Place). (xs : List ModuleVersion) × (trail 1 slice 0 ≡ q.row ∷ xs) × Chain m s (q.row ∷ xs)) same ([], trail_main 0, start)
    trail_chained (suc i) r n = let (z, xs, u, c) = trail_leads (suc (suc i)) i r (omega arith) n in (z ∷ xs, u, c)

  pub list_sheet : ListSheet m s (take 256 (list_walk m s).sheet)
  list_sheet = record {
    places = sheet_right (main_row s) (λ x. x ∈ main_requirements s) (Requires (view m s)) (list_walk m s).sheet traced sheet_distinct;
    chained = trail_chained (take 256 (list_walk m s).sheet) (take 256 (list_walk m s).sheet)
        (first_traced (main_row s) (λ x. x ∈ main_requirements s) (Requires (view m s)) 256 (list_walk m s).sheet (omega arith) traced) (λ i r e. e);
  }

  -- a place after the main one has its chain
  pub place_reached : (i : ℕ) (r : Place) → slice_get (list_walk m s).sheet (suc i) ≡ Some r → (z : ModuleVersion) × (xs : List ModuleVersion) × Chain m s (r.row ∷ z ∷ xs)
  place_reached i r n = let (z, xs, t, c) = trail_leads (list_walk m s).sheet (list_walk m s).sheet traced (λ j q e. e) (suc (suc i)) i r (omega arith) n in (z, xs, c)

  pub sheet_reached : (x : ModuleVersion) → x ∈ module_versions (list_walk m s).sheet → Reached m s x
  sheet_reached x h = go (place_of (list_walk m s).sheet x h)
    where
      go : (i : ℕ) × (r : Place) × (slice_get (list_walk m s).sheet i ≡ Some r) × (x ≡ r.row) → Reached m s x
      go (zero, r, n, e) = let same : placed (main_row s) 0 ≡ r = cc traced.0 in subst (Reached m s) (ap (λ v. v.row) same ∙ sym e) reached_main
      go (suc i, r, n, e) = let (z, xs, c) = place_reached i r n in subst (Reached m s) (sym e) (z ∷ xs, c)

  -- before the place where it stops each was answered
  pub answered_before : (p : ℕ) (f : Fault) → (list_walk m s).end ≡ stopped p f → (i : ℕ) (r : Place) → 0 < i → i < p → slice_get (list_walk m s).sheet i ≡ Some r
      → (xs : List ModuleVersion) × (remaining (view m s) r.row ≡ found xs)
  answered_before p f t i r g l n = let (xs, a, on) = begun_before (remaining (view m s)) (main_requirements s) (first_sheet s) list_begun p f t i r g l n in (xs, a)

  module _ (ok : (list_walk m s).end ≡ done) where
    sheet_answered : (x : ModuleVersion) → x ∈ module_versions (list_walk m s).sheet → (x.path ≡ s.main → ⊥) → Answered (remaining (view m s)) x (list_walk m s).sheet
    sheet_answered x h off = go (place_of (list_walk m s).sheet x h)
      where
        go : (i : ℕ) × (r : Place) × (slice_get (list_walk m s).sheet i ≡ Some r) × (x ≡ r.row) → Answered (remaining (view m s)) x (list_walk m s).sheet
        go (zero, r, n, e) = let same : placed (main_row s) 0 ≡ r = cc traced.0 in absurd (off (ap (λ v. v.path) (e ∙ ap (λ v. v.row) (sym same))))
        go (suc i, r, n, e) = rw e (begun_answers (remaining (view m s)) (main_requirements s) (first_sheet s) list_begun ok (suc i) r (omega arith) n)

    pub reached_sheet : (x : ModuleVersion) → Reached m s x → x ∈ module_versions (list_walk m s).sheet
    reached_sheet =
        reached_all (λ x. x ∈ module_versions (list_walk m s).sheet) main_on_sheet (begun_holds (remaining (view m s)) (main_requirements s) (first_sheet s) list_begun)
        (λ x y off h q.
        let (xs, a, on) = sheet_answered x h off in
        let (ys, b, k) = q in
        let same : ys ≡ xs = cc in
        on y (rw same at k))

    -- each but the main module has its list
    pub reached_found : (x : ModuleVersion) → Reached m s x → (x.path ≡ s.main → ⊥) → (xs : List ModuleVersion) × (remaining (view m s) x ≡ found xs)
    reached_found x r off = let (xs, a, on) = sheet_answered x (reached_sheet x r) off in (xs, a)

pub sheets_right : SheetsRight
sheets_right = list_sheet
