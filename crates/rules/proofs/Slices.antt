-- What a list leaves in its slices: there is room for it, and the sheet's places stand there. Assumes nothing.
use Rattle.std.proofs.Common.{◌≡◌, ℕ, ◌-◌, ◌≤◌, true, not, leb, List, ◌∷◌, length, take, replicate, Some, refl, inl, inr, arith, length-append, length-take}
use lib.ListN.{length-replicate}
use Rattle.std.specs.List.{slice_get}
use Rattle.std.proofs.lemmas.List.{take_all}
use Rattle.std.proofs.lemmas.Bool.{and_parts, leb-true}
use Rattle.rules.specs.Paths.{path_order}
use Rattle.rules.specs.Names.{ModuleVersion, same_path, ◌∈◌, Distinct}
use Rattle.rules.specs.Sources.{Meaning}
use Rattle.rules.specs.Projects.{State, main_row, off_main, main_requirements, view, remaining}
use Rattle.rules.specs.Walks.{Place, module_versions, done, no_room, list_walk, first_sheet}
use Rattle.rules.specs.Rows.{path_of, table}
use Rattle.rules.specs.Lists.{list_of}
use Rattle.rules.specs.Slices.{blank_place, Lent, long_enough, filled}
use Rattle.rules.proofs.Order.{paths}
use Rattle.rules.proofs.Members.{kept_was, distinct_length}
use Rattle.rules.proofs.Tables.{ascending_distinct}
use Rattle.rules.proofs.Rows.{table_was, table_ascending}
use Rattle.rules.proofs.Walks.{begun_room, begun_no_room, nth_left}
use Rattle.rules.proofs.Reached.{off_main_apart, list_begun, main_on_sheet}
use Rattle.rules.proofs.Sheets.{length_module_versions}

pub filled_length : {A : Type 0} (none : A) (n : ℕ) (xs : List A) → length xs ≤ n → length (filled none n xs) ≡ n
filled_length none n xs h = omega (arith, length-append xs (replicate (n - length xs) none), length-replicate (n - length xs) none)

pub long_sheet : (n : Lent) → long_enough n ≡ true → 256 ≤ n.sheet
long_sheet n w = leb-true 256 n.sheet (and_parts (leb 256 n.sheet) (leb 256 n.list) w).0

pub long_list : (n : Lent) → long_enough n ≡ true → 256 ≤ n.list
long_list n w = leb-true 256 n.list (and_parts (leb 256 n.sheet) (leb 256 n.list) w).1

module _ (m : Meaning) (s : State) where
  pub sheet_room : ((list_walk m s).end ≡ no_room → ⊥) → length (list_walk m s).sheet ≤ 256
  sheet_room = begun_room (remaining (view m s)) (main_requirements s) (first_sheet s) (list_begun m s)

  pub no_room_256 : (list_walk m s).end ≡ no_room → length (take 256 (list_walk m s).sheet) ≡ 256
  no_room_256 e = omega (arith, length-take 256 (list_walk m s).sheet, begun_no_room (remaining (view m s)) (main_requirements s) (first_sheet s) (list_begun m s) e)

  -- each row of the list is on the sheet, and none twice
  pub list_room : (list_walk m s).end ≡ done → length (list_of s (list_walk m s).sheet) ≤ 256
  list_room ok = omega (arith, distinct_length (main_row s ∷ rows) (module_versions (list_walk m s).sheet) apart on, length_module_versions (list_walk m s).sheet, short)
    where
      rows : List ModuleVersion
      rows = table (off_main s.main (module_versions (list_walk m s).sheet))

      short : length (list_walk m s).sheet ≤ 256
      short = sheet_room (λ e. let z : ◌≡◌ {A = ℕ} 0 1 = cc in omega arith)

      sheet_row : (x : ModuleVersion) → x ∈ rows → (x ∈ module_versions (list_walk m s).sheet) × (not (same_path x s.main) ≡ true)
      sheet_row x h = kept_was (λ y. not (same_path y s.main)) (module_versions (list_walk m s).sheet) x (table_was (off_main s.main (module_versions (list_walk m s).sheet)) x h)

      apart : Distinct (main_row s ∷ rows)
      apart =
          (λ h. off_main_apart s.main (main_row s) (sheet_row (main_row s) h).1 refl, ascending_distinct path_of path_order paths rows (table_ascending (off_main s.main (module_versions (list_walk m s).sheet))))

      on : (x : ModuleVersion) → x ∈ (main_row s ∷ rows) → x ∈ module_versions (list_walk m s).sheet
      on x (inl e) = rw e (main_on_sheet m s)
      on x (inr h) = (sheet_row x h).0

  -- the slice has the sheet's places
  pub on_slice : (n : ℕ) → ((list_walk m s).end ≡ no_room → ⊥) → (i : ℕ) (r : Place) → slice_get (list_walk m s).sheet i ≡ Some r
      → slice_get (filled blank_place n (take 256 (list_walk m s).sheet)) i ≡ Some r
  on_slice n room i r e =
      nth_left (take 256 (list_walk m s).sheet) (replicate (n - length (take 256 (list_walk m s).sheet)) blank_place) i r
      (rw (take_all 256 (list_walk m s).sheet (sheet_room room)) e)
