-- Sheets on which each place came from an earlier one. Assumes nothing.
use Rattle.std.proofs.Common.{◌≡◌, ℕ, zero, suc, ◌<◌, ◌≤◌, List, [], ◌∷◌, ◌++◌, length, take, Some, refl, ap, subst, inl, inr, ⊎_elim, arith, length-take}
use Rattle.std.specs.List.{slice_get}
use Rattle.rules.specs.Names.{ModuleVersion, ◌∈◌, Distinct}
use Rattle.rules.specs.Walks.{Place, module_versions}
use Rattle.rules.specs.Sheets.{ComesFrom, CameEarlier, SheetRight}
use Rattle.rules.proofs.Walks.{placed, nth_left, nth_within, nth_pushed}

-- the first places of a sheet

pub nth_first : (n : ℕ) (sheet : List Place) (i : ℕ) (r : Place) → slice_get (take n sheet) i ≡ Some r → (slice_get sheet i ≡ Some r) × (i < n)
nth_first zero sheet i r e = let z : ◌≡◌ {A = ℕ} 0 1 = cc in absurd (omega arith)
nth_first (suc n) [] i r e = let z : ◌≡◌ {A = ℕ} 0 1 = cc in absurd (omega arith)
nth_first (suc n) (q ∷ qs) zero r e = (e, omega arith)
nth_first (suc n) (q ∷ qs) (suc i) r e = let (f, l) = nth_first n qs i r e in (f, omega arith)

pub first_nth : (n : ℕ) (sheet : List Place) (i : ℕ) (r : Place) → slice_get sheet i ≡ Some r → i < n → slice_get (take n sheet) i ≡ Some r
first_nth zero sheet i r e l = absurd (omega arith)
first_nth (suc n) [] i r e l = e
first_nth (suc n) (q ∷ qs) zero r e l = e
first_nth (suc n) (q ∷ qs) (suc i) r e l = first_nth n qs i r e (omega arith)

pub first_was : (n : ℕ) (sheet : List Place) (x : ModuleVersion) → x ∈ module_versions (take n sheet) → x ∈ module_versions sheet
first_was zero sheet x h = absurd h
first_was (suc n) [] x h = absurd h
first_was (suc n) (r ∷ rs) x (inl e) = inl e
first_was (suc n) (r ∷ rs) x (inr h) = inr (first_was n rs x h)

pub first_distinct : (n : ℕ) (sheet : List Place) → Distinct (module_versions sheet) → Distinct (module_versions (take n sheet))
first_distinct zero sheet d = tt
first_distinct (suc n) [] d = tt
first_distinct (suc n) (r ∷ rs) d = (λ h. d.0 (first_was n rs r.row h), first_distinct n rs d.1)

pub length_module_versions : (sheet : List Place) → length (module_versions sheet) ≡ length sheet
length_module_versions [] = refl
length_module_versions (r ∷ rs) = ap suc (length_module_versions rs)

pub short_256 : (sheet : List Place) → length (take 256 sheet) ≤ 256
short_256 sheet = omega (arith, length-take 256 sheet)

module _ (main : ModuleVersion) (First : ModuleVersion → Type 0) (Next : ModuleVersion → ModuleVersion → Type 0) where
  abbrev pub Traced : List Place → Type 0
  Traced sheet = (slice_get sheet 0 ≡ Some (placed main 0)) × ((i : ℕ) (r : Place) → slice_get sheet (suc i) ≡ Some r → CameEarlier main First Next sheet (suc i) r)

  comes_still : (sheet more : List Place) (k : ℕ) (x : ModuleVersion) → ComesFrom main First Next sheet k x → ComesFrom main First Next (sheet ++ more) k x
  comes_still sheet more zero x h = h
  comes_still sheet more (suc k) x (q, n, h) = (q, nth_left sheet more (suc k) q n, h)

  -- it stays so where a place is appended that came so
  traced_push : (sheet : List Place) (x : ModuleVersion) (k : ℕ) → k < length sheet → ComesFrom main First Next sheet k x → Traced sheet → Traced (sheet ++ placed x k ∷ [])
  traced_push sheet x k l h (first, old) = (
    nth_left sheet (placed x k ∷ []) 0 (placed main 0) first,
    λ i r e.
        ⊎_elim
        (λ g. let (b, c) = old i r g in (b, comes_still sheet (placed x k ∷ []) r.from r.row c))
        (λ (g, same). subst (CameEarlier main First Next (sheet ++ placed x k ∷ []) (suc i)) same (omega arith, comes_still sheet (placed x k ∷ []) k x h))
        (nth_pushed sheet (placed x k) (suc i) r e),
  )

  pub traced_main : Traced (placed main 0 ∷ [])
  traced_main = (refl, λ i r e. let z : ◌≡◌ {A = ℕ} 0 1 = cc in absurd (omega arith))

  pub traced_first : (sheet : List Place) (x : ModuleVersion) → First x → Traced sheet → Traced (sheet ++ placed x 0 ∷ [])
  traced_first sheet x h t = traced_push sheet x 0 (omega (arith, nth_within sheet 0 (placed main 0) t.0)) h t

  pub traced_next : (sheet : List Place) (k : ℕ) (r : Place) (x : ModuleVersion) → 1 ≤ k → slice_get sheet k ≡ Some r → Next r.row x → Traced sheet → Traced (sheet ++ placed x k ∷ [])
  traced_next sheet zero r x l n h t = absurd (omega arith)
  traced_next sheet (suc k) r x l n h t = traced_push sheet x (suc k) (nth_within sheet (suc k) r n) (r, n, h) t

  -- so are its first places
  comes_first : (n : ℕ) (sheet : List Place) (k : ℕ) (x : ModuleVersion) → k < n → ComesFrom main First Next sheet k x → ComesFrom main First Next (take n sheet) k x
  comes_first n sheet zero x l h = h
  comes_first n sheet (suc k) x l (q, e, h) = (q, first_nth n sheet (suc k) q e l, h)

  pub first_traced : (n : ℕ) (sheet : List Place) → 0 < n → Traced sheet → Traced (take n sheet)
  first_traced n sheet l (first, came) = (
    first_nth n sheet 0 (placed main 0) first l,
    λ i r e.
        let (f, k) = nth_first n sheet (suc i) r e in
        let (b, c) = came i r f in
        (b, comes_first n sheet r.from r.row (omega arith) c),
  )

  pub sheet_right : (sheet : List Place) → Traced sheet → Distinct (module_versions sheet) → SheetRight main First Next (take 256 sheet)
  sheet_right sheet t d =
      let (first, came) = first_traced 256 sheet (omega arith) t in
      record { few = short_256 sheet; once = first_distinct 256 sheet d; main_first = first; came = came }

  -- what holds of the rows that a walk begins with, and goes on with it, holds of all but the main row
  module _ (P : ModuleVersion → Type 0) (begins : (x : ModuleVersion) → First x → P x) (goes_on : (x y : ModuleVersion) → P x → Next x y → P y) (sheet : List Place) (t : Traced sheet) where
    places_upto : (left i : ℕ) (r : Place) → i < left → slice_get sheet (suc i) ≡ Some r → P r.row
    places_upto zero i r l n = absurd (omega arith)
    places_upto (suc left) i r l n = let (b, c) = t.1 i r n in go (places_upto left) r.from b c
      where
        go : ((j : ℕ) (q : Place) → j < left → slice_get sheet (suc j) ≡ Some q → P q.row) → (k : ℕ) → k < suc i → ComesFrom main First Next sheet k r.row → P r.row
        go on zero b h = begins r.row h
        go on (suc k) b (q, e, h) = goes_on q.row r.row (on k q (omega arith) e) h

    pub places_all : (i : ℕ) (r : Place) → slice_get sheet (suc i) ≡ Some r → P r.row
    places_all i r n = places_upto (suc i) i r (omega arith) n
