-- How many items a filling has, and what is read of a sheet. Assumes nothing.
use Rattle.std.proofs.Common.{◌≡◌, ℕ, zero, suc, ◌<◌, ◌≤◌, List, [], ◌∷◌, map, length, get_or, Bool, true, false, Option, Some, None, sym, refl, ap, ◌∙◌, arith}
use Rattle.std.specs.List.{slice_get}
use Rattle.std.specs.Bool.{then_some}
use Rattle.std.specs.Option.{option_map, option_and_then}
use Rattle.std.proofs.lemmas.List.{length-take-le, length-map}
use Rattle.std.proofs.lemmas.Option.{slice_get-map}
use Rattle.rules.specs.Names.{is_module_version}
use Rattle.rules.specs.Walks.{module_versions}
use Rattle.modules.specs.Rows.{row_names, row_of, names_of}
use Rattle.modules.specs.declared.rows.ModuleVersion.{ModuleVersion}
use Rattle.walks.specs.declared.filling.Filling.{Filling}
use Rattle.walks.specs.declared.place.Place.{Place}
use Rattle.walks.specs.Fillings.{items_of}
use Rattle.walks.specs.Places.{place_of}
use Rattle.walks.specs.Sheets.{sheet_of}
use Rattle.walks.specs.Views.{module_version_at}

pub items_long : {T : Type 0} (f : Filling T) → length (items_of f) ≡ f.count
items_long f = let (most, long) = f.room in length-take-le f.count f.items.now (omega arith)

pub sheet_long : (s : Filling Place) → length (sheet_of s) ≡ s.count
sheet_long s = length-map (items_of s) place_of ∙ items_long s

pub sheet_short : (s : Filling Place) → length (sheet_of s) ≤ 256
sheet_short s = let (most, long) = s.room in omega (arith, sheet_long s)

-- the row that stands at a place
pub row_read : (ps : List Place) (i : ℕ) (d : Place) → i < length ps → slice_get (module_versions (map place_of ps)) i ≡ Some (row_names (get_or ps i d).row)
row_read [] i d h = absurd (omega arith)
row_read (p ∷ ps) zero d h = refl
row_read (p ∷ ps) (suc i) d h = row_read ps i d (omega arith)

-- what is checked at a place
pub checked_there : (ps : List Place) (i : ℕ) (p : Place) → slice_get ps i ≡ Some p
    → (o : Option ModuleVersion) → option_map row_of o ≡ then_some (is_module_version (row_names p.row)) p.row → option_map names_of o ≡ module_version_at (map place_of ps) i
checked_there ps i p e o k =
    let there : slice_get (module_versions (map place_of ps)) i ≡ Some (row_names p.row) = slice_get-map (λ r. r.row) (map place_of ps) i ∙ ap (option_map (λ r. r.row)) (slice_get-map place_of ps i ∙ ap (option_map place_of) e) in
    as_names o ∙ ap (option_map row_names) k ∙ named (is_module_version (row_names p.row)) ∙ ap (option_and_then (λ x. then_some (is_module_version x) x)) (sym there)
  where
    as_names : (q : Option ModuleVersion) → option_map names_of q ≡ option_map row_names (option_map row_of q)
    as_names (Some m) = refl
    as_names None = refl

    named : (b : Bool) → option_map row_names (then_some b p.row) ≡ then_some b (row_names p.row)
    named true = refl
    named false = refl
