-- A row is added to the progress as it is added to its rows. Assumes nothing.
use Rattle.std.proofs.Common.{◌≡◌, ℕ, Bool, true, false, cond, ltb, List, [], ◌∷◌, ◌++◌, length, Ok, Err, Result, refl}
use Rattle.rules.specs.Orders.{Bytes}
use Rattle.rules.specs.Paths.{is_path}
use Rattle.rules.specs.Versions.{is_version}
use Rattle.rules.specs.Names.{ModuleVersion, at}
use Rattle.rules.specs.Causes as R
use Rattle.rules.specs.Manifests as M
use Rattle.causes.specs.declared.cause.Cause.{Cause}
use Rattle.manifest.specs.declared.kinds.Progress.{Progress}
use Rattle.manifest.specs.declared.rows.RowsRead.{RowsRead}
use Rattle.manifest.specs.Rows.{rows_told, row_added}
use Rattle.manifest.specs.Views.{view, viewed}

abbrev pub grown : (List ModuleVersion → M.Progress) → Result (List ModuleVersion) R.Cause → Result M.Progress R.Cause
grown grow (Ok xs) = Ok (grow xs)
grown grow (Err c) = Err c

abbrev pub requiring : M.Progress → List ModuleVersion → M.Progress
requiring p xs = record { block = p.block; main = p.main; requires = xs; excludes = p.excludes }

abbrev pub excluding : M.Progress → List ModuleVersion → M.Progress
excluding p xs = record { block = p.block; main = p.main; requires = p.requires; excludes = xs }

module _ (p : Progress) (required excluded : RowsRead) where
  pub required_told : (r : Result (Unit {0}) Cause) → viewed p required excluded r ≡ grown (requiring (view p required excluded)) (rows_told required r)
  required_told (Ok u) = refl
  required_told (Err c) = refl

  pub excluded_told : (r : Result (Unit {0}) Cause) → viewed p required excluded r ≡ grown (excluding (view p required excluded)) (rows_told excluded r)
  excluded_told (Ok u) = refl
  excluded_told (Err c) = refl

-- with the answers of the three checks as they may come
pub added_as : (most : ℕ) (xs : List ModuleVersion) (grow : List ModuleVersion → M.Progress) (m v : Bytes)
    → grown grow (row_added most xs m v) ≡ M.added most xs (λ x. grow (xs ++ x ∷ [])) m v
added_as most xs grow m v = go (is_path m) (is_version v) (ltb (length xs) most)
  where
    put : Bool → Result ModuleVersion R.Cause → Result (List ModuleVersion) R.Cause
    put room (Ok x) = cond room (Ok (xs ++ x ∷ [])) (Err R.row_too_many)
    put room (Err d) = Err d

    given : Bool → Bool → Bool → Result (List ModuleVersion) R.Cause
    given path version room = put room (cond path (cond version (Ok (at m v)) (Err R.bad_version)) (Err R.bad_path))

    told : Bool → Bool → Bool → Result M.Progress R.Cause
    told path version room =
        cond path (cond version (cond room (Ok (grow (xs ++ at m v ∷ []))) (Err R.row_too_many)) (Err R.bad_version)) (Err R.bad_path)

    go : (path version room : Bool) → grown grow (given path version room) ≡ told path version room
    go true true true = refl
    go true true false = refl
    go true false room = refl
    go false version room = refl
