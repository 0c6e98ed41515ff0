-- When a list is refused, and that the refusal shows a chain to what has no requirement list. Assumes nothing.
use Rattle.std.proofs.Common.{◌≡◌, ℕ, zero, suc, ◌≤◌, ◌⊎◌, List, ◌∷◌, Some, refl, inl, inr, ⊎_elim, arith}
use Rattle.std.specs.List.{slice_get}
use Rattle.rules.specs.Causes.{Fault}
use Rattle.rules.specs.Sources.{Meaning, fault}
use Rattle.rules.specs.Projects.{State, main_requirements, view, remaining, Few, Many}
use Rattle.rules.specs.Walks.{Place, module_versions, End, done, stopped, no_room, list_walk, first_sheet}
use Rattle.rules.specs.Faults.{Stopped, Broken, Shown, ShownOn, RefusalRightAt, RefusalRight}
use Rattle.rules.proofs.Members.{distinct_length}
use Rattle.rules.proofs.Walks.{begun_stopped, begun_no_room}
use Rattle.rules.proofs.Sheets.{length_module_versions}
use Rattle.rules.proofs.Reached.{chain_ends, list_begun, traced, trail_leads, sheet_distinct, sheet_reached, reached_found}

module _ (m : Meaning) (s : State) where
  -- on any slice that has the sheet's places
  module _ (slice : List Place) (on : (i : ℕ) (r : Place) → slice_get (list_walk m s).sheet i ≡ Some r → slice_get slice i ≡ Some r) where
    pub shown_on : (p : ℕ) (f : Fault) → (list_walk m s).end ≡ stopped p f → ShownOn m s slice p f
    shown_on p f e = go p (begun_stopped (remaining (view m s)) (main_requirements s) (first_sheet s) (list_begun m s) p f e)
      where
        go : (k : ℕ) → (1 ≤ k) × ((r : Place) × (slice_get (list_walk m s).sheet k ≡ Some r) × (remaining (view m s) r.row ≡ fault f)) → ShownOn m s slice k f
        go zero (l, there) = absurd (omega arith)
        go (suc i) (l, (r, n, a)) =
            let (z, xs, t, c) = trail_leads m s (list_walk m s).sheet slice (traced m s) on (suc (suc i)) i r (omega arith) n in
            (r.row, z ∷ xs, t, c, a, chain_ends m s c)

  shown : (p : ℕ) (f : Fault) → (list_walk m s).end ≡ stopped p f → Shown m s p f
  shown = shown_on (list_walk m s).sheet (λ i r e. e)

  -- with few module versions reached there is room for all
  pub many : (list_walk m s).end ≡ no_room → Many m s
  many e = (module_versions (list_walk m s).sheet, omega (arith, length_module_versions (list_walk m s).sheet, begun_no_room (remaining (view m s)) (main_requirements s) (first_sheet s) (list_begun m s) e), sheet_distinct m s, sheet_reached m s)

  room : Few m s → (list_walk m s).end ≡ no_room → ⊥
  room (xs, few, all) e =
      let (ys, long, apart, on) = many e in
      omega (arith, distinct_length ys xs apart (λ x h. all x (on x h)))

  ways : Few m s → ((list_walk m s).end ≡ done) ⊎ Stopped m s
  ways few = go (list_walk m s).end refl
    where
      go : (e : End) → (list_walk m s).end ≡ e → ((list_walk m s).end ≡ done) ⊎ Stopped m s
      go done t = inl t
      go (stopped p f) t = inr (p, f, t)
      go no_room t = absurd (room few t)

  pub refusal_right_at : RefusalRightAt m s
  refusal_right_at = (λ few. (ways few, (broken, λ b. ⊎_elim (whole b) (λ t. t) (ways few))), shown)
    where
      broken : Stopped m s → Broken m s
      broken (p, f, e) = let (x, xs, t, c, a, apart) = shown p f e in (x, (xs, c), apart, (f, a))

      whole : Broken m s → (list_walk m s).end ≡ done → Stopped m s
      whole (x, r, apart, (f, a)) ok =
          let (ys, b) = reached_found m s ok x r apart in
          let z : ◌≡◌ {A = ℕ} 0 1 = cc in
          absurd (omega arith)

pub refusal_right : RefusalRight
refusal_right = refusal_right_at
