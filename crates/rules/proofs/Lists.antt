-- A list that is given is the least that is fit. Assumes nothing.
use Rattle.std.proofs.Common.{◌≡◌, not, List, ◌∷◌, sym, refl, ap, ◌∙◌, subst, inl, inr, ⊎_elim}
use Rattle.std.specs.List.{AllByRecursion}
use Rattle.rules.specs.Names.{ModuleVersion, same_path, Stands, ◌∈◌}
use Rattle.rules.specs.Sources.{Meaning}
use Rattle.rules.specs.Projects.{State, main_row, off_main, Reached}
use Rattle.rules.specs.Walks.{Place, module_versions, done, list_walk}
use Rattle.rules.specs.Rows.{table}
use Rattle.rules.specs.Lists.{list_of, IsList, Fit, NowhereAbove, LeastFit, ListRightAt, ListRight}
use Rattle.rules.proofs.Members.{kept_member, kept_was, all_member, all_from_members}
use Rattle.rules.proofs.Order.{not_equal_test, paths}
use Rattle.rules.proofs.Rows.{stands_member, table_was, table_stands, table_ascending, tables_same}
use Rattle.rules.proofs.Reached.{off_main_apart, reached_main, main_or_apart, sheet_reached, reached_sheet}

pub stands_further : (w x : ModuleVersion) (ys : List ModuleVersion) → Stands x ys → Stands x (w ∷ ys)
stands_further w x ys (y, h, p, u) = (y, inr h, p, u)

module _ (s : State) where
  pub is_list : (sheet : List Place) → IsList s (list_of s sheet)
  is_list sheet = (
    table (off_main s.main (module_versions sheet)),
    refl,
    table_ascending (off_main s.main (module_versions sheet)),
    all_from_members _ (table (off_main s.main (module_versions sheet)))
        (λ x h. off_main_apart s.main x (kept_was (λ y. not (same_path y s.main)) (module_versions sheet) x (table_was (off_main s.main (module_versions sheet)) x h)).1),
  )

  -- behind the main row
  nowhere_behind : (xs ys : List ModuleVersion) → AllByRecursion (λ x. x.path ≡ s.main → ⊥) xs → NowhereAbove (main_row s ∷ xs) (main_row s ∷ ys) → NowhereAbove xs ys
  nowhere_behind xs ys apart f x h =
      let (y, k, p, u) = f x (inr h) in
      ⊎_elim (λ e. absurd (all_member _ xs apart x h (p ∙ ap (λ w. w.path) e))) (λ j. (y, j, p, u)) k

  pub lists_same : (k l : List ModuleVersion) → IsList s k → IsList s l → NowhereAbove k l → NowhereAbove l k → k ≡ l
  lists_same k l (xs, e, a, p) (ys, f, b, q) f1 f2 =
      let g1 : NowhereAbove (main_row s ∷ xs) (main_row s ∷ ys) = subst (λ z. NowhereAbove (main_row s ∷ xs) z) f (subst (λ z. NowhereAbove z l) e f1) in
      let g2 : NowhereAbove (main_row s ∷ ys) (main_row s ∷ xs) = subst (λ z. NowhereAbove (main_row s ∷ ys) z) e (subst (λ z. NowhereAbove z k) f f2) in
      e ∙ ap (λ zs. main_row s ∷ zs) (tables_same xs ys a b (nowhere_behind xs ys p g1) (nowhere_behind ys xs q g2)) ∙ sym f

module _ (m : Meaning) (s : State) where
  -- what is shown is on the sheet, and so is reached
  pub shown_reached : (x : ModuleVersion) → x ∈ list_of s (list_walk m s).sheet → Reached m s x
  shown_reached x (inl e) = rw e (reached_main m s)
  shown_reached x (inr h) =
      sheet_reached m s x (kept_was (λ y. not (same_path y s.main)) (module_versions (list_walk m s).sheet) x (table_was (off_main s.main (module_versions (list_walk m s).sheet)) x h)).0

  pub list_fit : (list_walk m s).end ≡ done → Fit m s (list_of s (list_walk m s).sheet)
  list_fit ok x r =
      ⊎_elim (λ e. stands_member x (list_of s (list_walk m s).sheet) (inl e))
      (λ apart. stands_further (main_row s) x (table (off_main s.main (module_versions (list_walk m s).sheet)))
      (table_stands (off_main s.main (module_versions (list_walk m s).sheet)) x
      (kept_member (λ y. not (same_path y s.main)) (module_versions (list_walk m s).sheet) x (reached_sheet m s ok x r) (ap not (not_equal_test paths x.path s.main apart)))))
      (main_or_apart m s x r)

  pub list_right_at : ListRightAt m s
  list_right_at ok = (
    is_list s sheet,
    λ l is. (
      (λ e. subst (LeastFit m s) (sym e) (list_fit ok, least)),
      (λ (fit, under). lists_same s l (list_of s sheet) is (is_list s sheet) (under (list_of s sheet) (is_list s sheet) (list_fit ok)) (least l is fit)),
    ),
  )
    where
      sheet : List Place
      sheet = (list_walk m s).sheet

      least : (k : List ModuleVersion) → IsList s k → Fit m s k → NowhereAbove (list_of s sheet) k
      least k is fit x h = fit x (shown_reached x h)

pub list_right : ListRight
list_right = list_right_at
