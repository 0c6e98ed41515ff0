-- Rows noted on a sheet: each has a place there. Assumes nothing.
use Rattle.std.proofs.Common.{◌≡◌, ℕ, suc, Bool, true, false, cond, List, [], ◌∷◌, ◌++◌, length, is_some, Some, None, Option, sym, refl, ap, ◌∙◌, arith}
use Rattle.std.specs.List.{slice_get}
use Rattle.std.specs.Option.{option_map}
use Rattle.rules.specs.Names.{ModuleVersion, same}
use Rattle.rules.specs.Walks as R
use Rattle.rules.specs.Walks.{module_versions, noted}
use Rattle.rules.proofs.Members.{same_is}
use Rattle.rules.proofs.Walks.{placed, module_versions_pushed}
use Rattle.rules.proofs.Sheets.{length_module_versions}
use Rattle.walks.specs.Places.{place_in}
use Rattle.walks.proofs.Writing.{place_has}

-- a place that is told has the row
pub place_there : (ys : List ModuleVersion) (x : ModuleVersion) (i : ℕ) → Some i ≡ place_in ys x → slice_get ys i ≡ Some x
place_there [] x i e = let z : ◌≡◌ {A = ℕ} 0 1 = cc in absurd (omega arith)
place_there (y ∷ ys) x i e = go (place_there ys x) (same x y) refl (place_in ys x) refl e
  where
    go : ((j : ℕ) → Some j ≡ place_in ys x → slice_get ys j ≡ Some x) → (b : Bool) → same x y ≡ b → (r : Option ℕ) → place_in ys x ≡ r → Some i ≡ cond b (Some 0) (option_map suc r) → slice_get (y ∷ ys) i ≡ Some x
    go on true s r q t = let zero_there : i ≡ 0 = cc in rw zero_there (ap Some (sym (same_is x y s)))
    go on false s None q t = let z : ◌≡◌ {A = ℕ} 0 1 = cc in absurd (omega arith)
    go on false s (Some j) q t = let next : i ≡ suc j = cc in rw next (on j (sym q))

module _ (from : ℕ) (x : ModuleVersion) (sheet : List R.Place) where
  -- it is there, or it is appended
  pub noted_there : (i : ℕ) → Some i ≡ place_in (module_versions sheet) x → noted from x sheet ≡ sheet
  noted_there i e = ap (λ b. cond b sheet (sheet ++ placed x from ∷ [])) (sym (place_has (module_versions sheet) x) ∙ go (place_in (module_versions sheet) x) e)
    where
      go : (r : Option ℕ) → Some i ≡ r → is_some r ≡ true
      go None q = let z : ◌≡◌ {A = ℕ} 0 1 = cc in absurd (omega arith)
      go (Some j) q = refl

  pub noted_new : None ≡ place_in (module_versions sheet) x → noted from x sheet ≡ sheet ++ placed x from ∷ []
  noted_new e = ap (λ b. cond b sheet (sheet ++ placed x from ∷ [])) (sym (place_has (module_versions sheet) x) ∙ ap is_some (sym e))

nth_end : (xs : List ModuleVersion) (x : ModuleVersion) (n : ℕ) → length xs ≡ n → slice_get (xs ++ x ∷ []) n ≡ Some x
nth_end [] x n e = rw (sym e) refl
nth_end (y ∷ ys) x n e = rw (sym e) (nth_end ys x (length ys) refl)

pub noted_place : (from : ℕ) (x : ModuleVersion) (sheet : List R.Place) (n : ℕ) → length sheet ≡ n → slice_get (module_versions (sheet ++ placed x from ∷ [])) n ≡ Some x
noted_place from x sheet n e = ap (λ ys. slice_get ys n) (module_versions_pushed sheet (placed x from)) ∙ nth_end (module_versions sheet) x n (length_module_versions sheet ∙ e)
