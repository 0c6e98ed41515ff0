-- What is read into the slices is well formed. Assumes nothing.
use Rattle.std.proofs.Common.{◌≡◌, ℕ, ◌-◌, List, length, take, replicate, IfOk, OnOk, Ok, Err, Result, sym, refl, ap, ◌∙◌, subst, ap₂, arith}
use Rattle.std.proofs.lemmas.List.{take_at}
use Rattle.rules.specs.Orders.{Bytes}
use Rattle.rules.specs.Names.{ModuleVersion}
use Rattle.rules.specs.Causes as R
use Rattle.rules.specs.Manifests as M
use Rattle.rules.specs.Slices.{blank}
use Rattle.rules.proofs.Readings.{well_formed}
use Rattle.modules.specs.declared.rows.Row.{Row}
use Rattle.names.specs.Paths.{path_bytes}
use Rattle.causes.specs.declared.refusal.Refusal.{Refusal}
use Rattle.manifest.specs.declared.kinds.Manifest.{Manifest}
use Rattle.manifest.specs.Holds.{names_read, Left}
use Rattle.manifest.specs.Outcomes.{Counts, outcome, counted, require_rows, exclude_rows, manifest_in}

-- the first n rows of a slice that is left with n rows
names_left : (before after : List Row) (xs : List ModuleVersion) (n : ℕ) → n ≡ length xs → Left before after xs → names_read n after ≡ xs
names_left before after xs n e l = ap₂ take e l ∙ take_at xs (replicate (length before - length xs) blank) (length xs) refl

counts_same : (c d : Counts) → ◌≡◌ {A = Result Counts R.Refusal} (Ok c) (Ok d) → c ≡ d
counts_same c d e = cc

module _ (most : ℕ) (text : Bytes) (m : Manifest) (was_required was_excluded required excluded : List Row) where
  pub formed_in : (all : M.Reading) → M.reading most text ≡ all → outcome (Ok m) ≡ counted all → Left was_required required (require_rows all)
      → Left was_excluded excluded (exclude_rows all) → M.WellFormed most (manifest_in required excluded m)
  formed_in (M.unread c n) r e a b = let z : ◌≡◌ {A = ℕ} 0 1 = cc in absurd (omega arith)
  formed_in (M.manifest x) r e a b = subst (M.WellFormed most) (sym same) (well_formed most text x r).0
    where
      counts : ◌≡◌ {A = Counts} (record { main = path_bytes m.main; required = m.required; excluded = m.excluded }) (record { main = x.main; required = length x.requires; excluded = length x.excludes })
      counts = counts_same _ _ e

      same : manifest_in required excluded m ≡ x
      same i = record {
        main = ap (λ c. c.main) counts i;
        requires = names_left was_required required x.requires m.required (ap (λ c. c.required) counts) a i;
        excludes = names_left was_excluded excluded x.excludes m.excluded (ap (λ c. c.excluded) counts) b i;
      }

-- or it is refused
pub formed_if : (most : ℕ) (text : Bytes) (was_required was_excluded required excluded : List Row) (all : M.Reading) (r : Result Manifest Refusal)
    → M.reading most text ≡ all → outcome r ≡ counted all → OnOk r (Left was_required required (require_rows all) × Left was_excluded excluded (exclude_rows all))
    → IfOk r (λ m. M.WellFormed most (manifest_in required excluded m))
formed_if most text was_required was_excluded required excluded all (Ok m) read told left =
    formed_in most text m was_required was_excluded required excluded all read told left.0 left.1
formed_if most text was_required was_excluded required excluded all (Err f) read told left = tt
