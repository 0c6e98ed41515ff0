-- The rows that are kept, one after another. Assumes nothing.
use Rattle.std.proofs.Common.{is_ok, Result, ltb, ◌≡◌, ℕ, ◌+◌, ◌<◌, ◌≤◌, Bool, true, false, cond, List, [], ◌∷◌, map, length, get_or, drop, Some, None, Option, Ordering, Less, Equal, Greater, sym, refl, ap, ◌∙◌, true≢false, arith}
use Rattle.std.proofs.lemmas.List.{at_drop_more, at_drop_all}
use Rattle.std.proofs.lemmas.Bool.{lt-ltb}
use Rattle.rules.specs.Paths.{path_order}
use Rattle.rules.specs.Names.{ModuleVersion}
use Rattle.rules.specs.Tables.{keep, lookup_by, entered, entered_by, entered_all}
use Rattle.rules.specs.Rows.{path_of, higher, with_row, row_of}
use Rattle.rules.specs.Walks.{module_versions}
use Rattle.rules.proofs.Tables.{entered_most}
use Rattle.ordered.specs.Held.{admitted}
use Rattle.ordered.specs.declared.table.NotInserted.{NotInserted}
use Rattle.modules.specs.Rows.{row_names}
use Rattle.walks.specs.declared.place.Place.{Place}
use Rattle.walks.specs.Places.{place_of}
use Rattle.lowers.specs.Spreads.{spared}

abbrev pub with_first : ModuleVersion → List ModuleVersion → List ModuleVersion
with_first = entered path_of path_order keep

-- where the path has a row, nothing changes
pub first_there : (x : ModuleVersion) (t : List ModuleVersion) (y : ModuleVersion) → row_of x.path t ≡ Some y → t ≡ with_first x t
first_there x [] y e = let z : ◌≡◌ {A = ℕ} 0 1 = cc in absurd (omega arith)
first_there x (a ∷ t) y e = go (first_there x t y) (path_order x.path a.path) e
  where
    go : (row_of x.path t ≡ Some y → t ≡ with_first x t) → (o : Ordering) → lookup_by path_of path_order o a (row_of x.path t) ≡ Some y → a ∷ t ≡ entered_by path_of path_order o keep x a t (with_first x t)
    go on Less q = let z : ◌≡◌ {A = ℕ} 0 1 = cc in absurd (omega arith)
    go on Equal q = refl
    go on Greater q = ap (λ ys. a ∷ ys) (on q)

-- where it has none, the row is entered in whatever way
pub first_new : (x : ModuleVersion) (t : List ModuleVersion) → row_of x.path t ≡ None → with_row x t ≡ with_first x t
first_new x [] e = refl
first_new x (a ∷ t) e = go (first_new x t) (path_order x.path a.path) e
  where
    go : (row_of x.path t ≡ None → with_row x t ≡ with_first x t) → (o : Ordering) → lookup_by path_of path_order o a (row_of x.path t) ≡ None
        → entered_by path_of path_order o higher x a t (with_row x t) ≡ entered_by path_of path_order o keep x a t (with_first x t)
    go on Less q = refl
    go on Equal q = let z : ◌≡◌ {A = ℕ} 0 1 = cc in absurd (omega arith)
    go on Greater q = ap (λ ys. a ∷ ys) (on q)

-- where a row is added that its path has none of, or that is refused
pub first_added : (x : ModuleVersion) (t u : List ModuleVersion) (r : Result (Unit {0}) NotInserted) → length t < 256 → r ≡ admitted (row_of x.path t) (ltb (length t) 256)
    → (is_ok r ≡ true → u ≡ with_row x t) → (is_ok r ≡ false → u ≡ t) → u ≡ with_first x t
first_added x t u r room e new old = go (row_of x.path t) refl (ltb (length t) 256) (lt-ltb (length t) 256 room) r e new old
  where
    go : (o : Option ModuleVersion) → row_of x.path t ≡ o → (b : Bool) → b ≡ true → (q : Result (Unit {0}) NotInserted) → q ≡ admitted o b
        → (is_ok q ≡ true → u ≡ with_row x t) → (is_ok q ≡ false → u ≡ t) → u ≡ with_first x t
    go None is true t1 q e1 n1 o1 = n1 (ap is_ok e1) ∙ first_new x t is
    go None is false t1 q e1 n1 o1 = absurd (true≢false (sym t1))
    go (Some y) is b t1 q e1 n1 o1 = o1 (ap is_ok e1) ∙ first_there x t y is

-- what is left behind i places gives the rows that are kept
module _ (mark : ℕ → Bool) (ps : List Place) where
  abbrev left_at : ℕ → List ModuleVersion
  left_at i = spared mark (i + 1) (module_versions (map place_of (drop i ps)))

  abbrev kept_all : List ModuleVersion → List ModuleVersion → List ModuleVersion
  kept_all = entered_all path_of path_order keep

  abbrev pub Keeping : ℕ → List ModuleVersion → Type 0
  Keeping i t = (length t ≤ i) × (kept_all t (left_at i) ≡ kept_all [] (left_at 0))

  -- the place in hand
  abbrev pub with_place : ℕ → ModuleVersion → List ModuleVersion → List ModuleVersion
  with_place i x t = cond (mark (i + 1)) t (with_first x t)

  place_most : (i : ℕ) (x : ModuleVersion) (t : List ModuleVersion) → length (with_place i x t) ≤ length t + 1
  place_most i x t = go (mark (i + 1))
    where
      go : (b : Bool) → length (cond b t (with_first x t)) ≤ length t + 1
      go true = omega arith
      go false = omega (arith, entered_most path_of path_order keep x t)

  pub keeping_more : (i : ℕ) (t : List ModuleVersion) → Keeping i t → (d : Place) → i < length ps → Keeping (i + 1) (with_place i (row_names (get_or ps i d).row) t)
  keeping_more i t (few, e) d h = (omega (arith, place_most i x t), sym turned ∙ e)
    where
      x : ModuleVersion
      x = row_names (get_or ps i d).row

      rest : List ModuleVersion
      rest = left_at (i + 1)

      go : (b : Bool) → kept_all t (cond b rest (x ∷ rest)) ≡ kept_all (cond b t (with_first x t)) rest
      go true = refl
      go false = refl

      turned : kept_all t (left_at i) ≡ kept_all (with_place i x t) rest
      turned = at_drop_more (λ (qs : List Place). kept_all t (spared mark (i + 1) (module_versions (map place_of qs)))) ps i d h ∙ go (mark (i + 1))

  pub keeping_end : (i : ℕ) (t : List ModuleVersion) → Keeping i t → length ps ≤ i → t ≡ kept_all [] (left_at 0)
  keeping_end i t (few, e) h = sym (at_drop_all (λ (qs : List Place). kept_all t (spared mark (i + 1) (module_versions (map place_of qs)))) ps i h) ∙ e
