-- What the exclude layer means, from what the source below it told. Assumes nothing.
use Rattle.std.proofs.Common.{◌≡◌, Bool, true, false, cond, not, List, [], ◌∷◌, map, filter, Ok, Err, Result, sym, refl, ap, ◌∙◌, subst}
use Rattle.std.specs.Result.{MatchResult, IsErrAnd}
use Rattle.rules.specs.Orders.{Bytes}
use Rattle.rules.specs.Names.{ModuleVersion, at, has}
use Rattle.rules.specs.Sources.{found, fault, Meaning, narrowed, passed_up, missing_here, included, excluding}
use Rattle.versions.specs.Values.{PlainVersion, plain_version_bytes}
use Rattle.modules.specs.Rows.{row_names}
use Rattle.modules.specs.declared.rows.Row.{Row}
use Rattle.source.specs.Insides.{Inside}
use Rattle.source.specs.declared.fault.Fault.{Fault}
use Rattle.source.specs.declared.fault.Found.{Found}

pub kept_map : {R X : Type 0} (f : R → X) (test : X → Bool) (xs : List R) → map f (filter (λ x. test (f x)) xs) ≡ filter test (map f xs)
kept_map f test [] = refl
kept_map f test (x ∷ xs) = go (test (f x)) (kept_map f test xs)
  where
    go : (b : Bool) → map f (filter (λ x. test (f x)) xs) ≡ filter test (map f xs)
        → map f (cond b (x ∷ filter (λ x. test (f x)) xs) (filter (λ x. test (f x)) xs)) ≡ cond b (f x ∷ filter test (map f xs)) (filter test (map f xs))
    go true below = ap (λ ys. f x ∷ ys) below
    go false below = below

-- nothing inside is changed, if what is below means the same and nothing is changed inside of that
pub inside_same : (es : List ModuleVersion) {m n : Meaning} {is js : List Inside} → m ≡ n → is ≡ js
    → ◌≡◌ {A = List Inside} (record { exclusions = es; below = m } ∷ is) (record { exclusions = es; below = n } ∷ js)
inside_same es p q i = record { exclusions = es; below = p i } ∷ q i

module _ (es : List ModuleVersion) (m : Meaning) where
  pub excluded_missing : (x : ModuleVersion) → has es x ≡ true → (excluding es m).requirements x ≡ fault missing_here
  excluded_missing x h = ap (λ b. cond b (fault missing_here) (passed_up (narrowed (included es) (m.requirements x)))) h

  pub excluded_found : (x : ModuleVersion) (rows : List Row) → has es x ≡ false → m.requirements x ≡ found (map row_names rows)
      → (excluding es m).requirements x ≡ found (map row_names (filter (λ r. not (has es (row_names r))) rows))
  excluded_found x rows h e =
      ap (λ b. cond b (fault missing_here) (passed_up (narrowed (included es) (m.requirements x)))) h
      ∙ ap (λ a. passed_up (narrowed (included es) a)) e
      ∙ ap found (sym (kept_map row_names (λ y. not (has es y)) rows))

  pub excluded_listing : (p : Bytes) (vs : List PlainVersion) → m.listing p ≡ found (map plain_version_bytes vs)
      → (excluding es m).listing p ≡ found (map plain_version_bytes (filter (λ v. not (has es (at p (plain_version_bytes v)))) vs))
  excluded_listing p vs e =
      ap (λ a. passed_up (narrowed (filter (λ v. not (has es (at p v)))) a)) e
      ∙ ap found (sym (kept_map plain_version_bytes (λ v. not (has es (at p v))) vs))

-- what is found below comes up as it is
pub found_below : (r m : Result Found Fault) (post : Fault → Fault → Type 0) → MatchResult r (λ x. m ≡ Ok x) (λ e. IsErrAnd m (post e)) → (x : Found) → m ≡ Ok x → r ≡ Ok x
found_below (Ok y) m post h x e = sym h ∙ e
found_below (Err f) m post h x e = absurd (subst (λ z. IsErrAnd z (post f)) e h)
