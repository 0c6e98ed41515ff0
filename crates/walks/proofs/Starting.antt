-- How a walk begins. Assumes nothing.
use Rattle.std.proofs.Common.{◌≡◌, ℕ, zero, suc, ◌<◌, ◌≤◌, true, not, List, [], ◌∷◌, map, length, Ok, Err, sym, ap, ◌∙◌, subst, arith}
use Rattle.std.specs.List.{AllByRecursion}
use Rattle.rules.proofs.Each.{each_filtered}
use Rattle.std.proofs.lemmas.Bool.{and_from}
use Rattle.rules.specs.Orders.{Bytes}
use Rattle.rules.specs.Names as N
use Rattle.rules.specs.Names.{is_module_version, same_path}
use Rattle.rules.specs.Projects.{View, off_main, remaining}
use Rattle.rules.specs.Walks as R
use Rattle.rules.specs.Walks.{written, ended, done, no_room, if_room, walk, first_sheet}
use Rattle.rules.proofs.Turns.{written_longer}
use Rattle.modules.specs.Rows.{names_of}
use Rattle.modules.specs.declared.rows.ModuleVersion.{ModuleVersion}
use Rattle.causes.specs.declared.refusal.Refusal.{Refusal}
use Rattle.walks.specs.Sheets.{EndsAs}
use Rattle.walks.specs.Views.{bare, Formed, walk_from}
use Rattle.walks.proofs.Telling.{ok_ended, err_ended, ends_by, with_room, without_room}
use Rattle.walks.proofs.Walking.{formed_written}

-- a module version is well formed
formed : (m : ModuleVersion) → is_module_version (names_of m) ≡ true
formed m = and_from _ _ m.path.ok m.version.ok

pub formed_names : (ms : List ModuleVersion) → AllByRecursion (λ x. is_module_version x ≡ true) (map names_of ms)
formed_names [] = tt
formed_names (m ∷ ms) = (formed m, formed_names ms)

first_formed : (main : Bytes) → Formed (first_sheet (bare main))
first_formed main zero r l e = absurd (omega arith)
first_formed main (suc i) r l e = let z : ◌≡◌ {A = ℕ} 0 1 = cc in absurd (omega arith)

module _ (w : View) (xs : List N.ModuleVersion) (front : List R.Place) (begins : front ≡ first_sheet (bare w.main)) (left : List R.Place) where
  abbrev begun : List R.Place
  begun = written 0 (off_main w.main xs) (first_sheet (bare w.main))

  same_begun : written 0 (off_main w.main xs) front ≡ begun
  same_begun = ap (written 0 (off_main w.main xs)) begins

  pub starts_on : AllByRecursion (λ x. is_module_version x ≡ true) xs → EndsAs {A = Unit {0}} (if_room (ended done) (written 0 (off_main w.main xs) front)) (Ok tt) left
      → (1 ≤ length left) × Formed left × (walk_from w xs ≡ walk (remaining w) 255 1 left)
  unfolding walk_from
  starts_on all t =
      let (l, q) = ok_ended (written 0 (off_main w.main xs) front) left tt t in
      let long : 1 ≤ length front = omega (arith, ap length begins) in
      let short : length begun ≤ 256 = subst (λ u. length u ≤ 256) same_begun l in (
        omega (arith, ap length q, written_longer 0 (off_main w.main xs) front),
        subst Formed (sym (q ∙ same_begun)) (formed_written 0 (off_main w.main xs) (first_sheet (bare w.main)) (each_filtered (λ y. is_module_version y ≡ true) (λ y. not (same_path y w.main)) xs all) (first_formed w.main)),
        with_room (walk (remaining w) 255 1) begun short ∙ ap (walk (remaining w) 255 1) (sym (q ∙ same_begun)),
      )

  pub starts_over : (s : Refusal) → EndsAs {A = Unit {0}} (if_room (ended done) (written 0 (off_main w.main xs) front)) (Err s) left → EndsAs {A = Unit {0}} (walk_from w xs) (Err s) left
  unfolding walk_from
  starts_over s t =
      let (l, k) = err_ended (written 0 (off_main w.main xs) front) left s t in
      let long : 256 < length begun = subst (λ u. 256 < length u) same_begun l in
      ends_by _ (ended no_room begun) (Err s) left (without_room (walk (remaining w) 255 1) begun long) (subst (λ u. EndsAs {A = Unit {0}} (ended no_room u) (Err s) left) same_begun k)
