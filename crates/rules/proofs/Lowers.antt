-- What an accepted lower is worth. Assumes nothing.
use Rattle.std.proofs.Common.{◌≡◌, Bool, true, not, ◌&&◌, ◌⊎◌, List, sym, refl, ap, ◌∙◌, subst, inl, inr, ⊎_elim, arith}
use Rattle.std.proofs.lemmas.Bool.{and_from, and_parts, not-true}
use Rattle.rules.specs.Orders.{Bytes}
use Rattle.rules.specs.Names.{ModuleVersion, same_path, has, Stands, ◌∈◌}
use Rattle.rules.specs.Sources.{found, Meaning, Lawful}
use Rattle.rules.specs.Projects.{State, main_row, off_main, View, view, Requires, Reached, Few, with_rows}
use Rattle.rules.specs.Walks.{Place, module_versions, done, list_walk}
use Rattle.rules.specs.Rows.{table}
use Rattle.rules.specs.Lists.{list_of}
use Rattle.rules.specs.Faults.{Broken}
use Rattle.rules.specs.Lowers.{OnOldPath, Offered, lower_walk, barred, kept_rows, Kept, Leads, itself, through, Allowed, Fits, ceilings_at, Sound, KeptRight, Relisted, SetsRight, LowerRight}
use Rattle.rules.proofs.Order.{upto_antisym, not_equal_test, paths, versions}
use Rattle.rules.proofs.Members.{module_same, member_from_has, has_from_member}
use Rattle.rules.proofs.Rows.{one_a_path, table_ascending}
use Rattle.rules.proofs.Reached.{off_main_apart, main_required, required_by_main, required_apart, reached_all, reached_first}
use Rattle.rules.proofs.Lists.{is_list, list_fit, shown_reached}
use Rattle.rules.proofs.Sheets.{length_module_versions}
use Rattle.rules.proofs.Faults.{refusal_right_at}
use Rattle.rules.proofs.Layers.{narrowed_found, found_included, layer_lawful}
use Rattle.rules.proofs.Offers.{upto_ceiling, ceilings_apart, offered_offers, available_no_fault}
use Rattle.rules.proofs.LowerWalks.{listings, few_rows, main_on, start_on, has_list}
use Rattle.rules.proofs.Marks.{allowed_unbarred, unbarred_allowed, walked_whole, kept}

-- a set that holds a module version holds all that it leads to
leads_in : (w : View) (set : ModuleVersion → Type 0) → ((x y : ModuleVersion) → set x → Requires w x y → set y) → {x y : ModuleVersion} → Leads w x y → set x → set y
leads_in w set step itself h = h
leads_in w set step (through {x} {y} q l) h = leads_in w set step l (step x y h q)

-- what lies in a sound set fits, whatever predicate the set is
pub sound_fits : (w : View) (cs : List ModuleVersion) (set : ModuleVersion → Type 0) → Sound w cs set → (x : ModuleVersion) → set x → Fits w cs x
sound_fits w cs set sound x h y l = let there = leads_in w set sound.closed l h in (sound.available y there, sound.not_above y there)

pub sets_right : (T : Type 0) → SetsRight T
sets_right T w cs member sound t = sound_fits w cs (λ x. (t : T) × (member t ≡ x)) sound (member t) (t, refl)

module _ (m : Meaning) (law : Lawful m) (s : State) (p v : Bytes) (ok : (lower_walk m s (ceilings_at m s p v)).end ≡ done) where
  abbrev cs : List ModuleVersion
  cs = ceilings_at m s p v

  abbrev sheet : List Place
  sheet = (lower_walk m s cs).sheet

  rows : List ModuleVersion
  rows = kept_rows (view m s) cs

  rows_kept : Kept (view m s) cs rows
  unfolding rows
  rows_kept = kept m s p v ok

  old_apart : (x : ModuleVersion) → OnOldPath cs x → x.path ≡ s.main → ⊥
  old_apart x (c, h, q) e = ceilings_apart s p v (list_of s (list_walk m s).sheet) (is_list s (list_walk m s).sheet) c h (q ∙ e)

  old_path : (x : ModuleVersion) → Offered (view m s).layer cs x → OnOldPath cs x
  old_path x (c, h, q, u, l) = (c, h, q)

  -- the sound set: the allowed module versions of the sheet

  abbrev Free : ModuleVersion → Type 0
  Free x = (x ∈ module_versions sheet) × (x.path ≡ s.main → ⊥) × Allowed (view m s) cs x

  free_sound : Sound (view m s) cs Free
  free_sound = record {
    available = λ x (h, apart, free).
        let (xs, e, on) = has_list m s cs ok x h apart (free x itself).0 (free x itself).1 in
        let (ys, f, u) = narrowed_found (off_main s.main) ((view m s).layer.requirements x) xs e in
        (ys, f);
    not_above = λ x (h, apart, free). (free x itself).0;
    closed = λ x y (h, apart, free) q.
        let (xs, e, on) = has_list m s cs ok x h apart (free x itself).0 (free x itself).1 in
        let (ys, f, k) = q in
        let same : ys ≡ xs = cc in
        (on y (subst (λ zs. y ∈ zs) same k), required_apart (view m s) x y q, λ z l. free z (through q l));
  }

  rows_free : (x : ModuleVersion) → x ∈ rows → Free x
  rows_free x h =
      let (k, free) = rows_kept.allowed x h in
      (start_on m s cs ok x (offered_offers (view m s).layer cs x k), old_apart x (old_path x k), free)

  rows_fit : (x : ModuleVersion) → x ∈ rows → Fits (view m s) cs x
  rows_fit x h y l = let free = leads_in (view m s) Free free_sound.closed l (rows_free x h) in (free_sound.available y free, free_sound.not_above y free)

  -- what fits on an old path was offered and is allowed, so it stands in the kept rows
  highest : (x : ModuleVersion) → OnOldPath cs x → Fits (view m s) cs x → Stands x rows
  highest x (c, k, q) fits = rows_kept.highest x offer allowed
    where
      allowed : Allowed (view m s) cs x
      allowed y l = let ((ys, g), under) = fits y l in (under, λ (f, r, e). available_no_fault (view m s) y ys f g r)

      offer : Offered (view m s).layer cs x
      offer =
          let (vs, l) = listings m s cs ok c k in
          let ((ys, g), under) = fits x itself in
          let on : (view m s).layer.listing x.path ≡ found vs = ap (λ z. (view m s).layer.listing z) (sym q) ∙ l in
          let listed = (layer_lawful m s.exclusions law).whole x.path vs on x.version ys g in
          (c, k, q, upto_ceiling cs x c under k q, (vs, on, listed))

  most_of : (set : ModuleVersion → Type 0) → Sound (view m s) cs set → (x : ModuleVersion) → set x → OnOldPath cs x → Stands x rows
  most_of set sound x h old = highest x old (sound_fits (view m s) cs set sound x h)

  -- the list right then

  abbrev then : State
  then = with_rows s rows

  reached_free : (x : ModuleVersion) → Reached m then x → (x ≡ main_row s) ⊎ Free x
  reached_free = reached_all m then (λ x. (x ≡ main_row s) ⊎ Free x) (inl refl) (λ y h. inr (rows_free y (main_required then y h).0)) step
    where
      step : (x y : ModuleVersion) → (x.path ≡ s.main → ⊥) → (x ≡ main_row s) ⊎ Free x → Requires (view m s) x y → (y ≡ main_row s) ⊎ Free y
      step x y off (inl e) q = absurd (off (ap (λ w. w.path) e))
      step x y off (inr h) q = inr (free_sound.closed x y h q)

  rows_reached : (x : ModuleVersion) → x ∈ rows → Reached m then x
  rows_reached x h =
      let free = rows_free x h in
      let (ys, e) = free_sound.available x free in
      reached_first m then x (required_by_main then x h (found_included m s.exclusions x ys e).0 free.1)

  relisted : (list_walk m then).end ≡ done
  relisted = ⊎_elim (λ e. e) (λ t. absurd (unbroken (((refusal_right_at m then).0 few).1.0 t))) ((refusal_right_at m then).0 few).0
    where
      few : Few m then
      few = (
        module_versions sheet,
        omega (arith, length_module_versions sheet, few_rows m s cs ok),
        λ x r. ⊎_elim (λ e. rw e (main_on m s cs ok)) (λ f. f.0) (reached_free x r),
      )

      unbroken : Broken m then → ⊥
      unbroken (x, r, apart, (f, a)) =
          ⊎_elim (λ e. apart (ap (λ w. w.path) e))
          (λ h. let (ys, e) = free_sound.available x h in available_no_fault (view m s) x ys f e a)
          (reached_free x r)

  abbrev shown : List ModuleVersion
  shown = list_of then (list_walk m then).sheet

  -- a list has one row a path
  one_shown : (x y : ModuleVersion) → x ∈ shown → y ∈ shown → x.path ≡ y.path → (x.path ≡ s.main → ⊥) → x ≡ y
  one_shown x y (inl e) k q apart = absurd (apart (ap (λ w. w.path) e))
  one_shown x y (inr h) (inl e) q apart = absurd (apart (q ∙ ap (λ w. w.path) e))
  one_shown x y (inr h) (inr k) q apart =
      one_a_path (table (off_main s.main (module_versions (list_walk m then).sheet))) (table_ascending (off_main s.main (module_versions (list_walk m then).sheet))) x y h k q

  shown_kept : (x : ModuleVersion) → OnOldPath cs x → x ∈ shown → x ∈ rows
  shown_kept x old h =
      let free : Free x = ⊎_elim (λ e. absurd (old_apart x old (ap (λ w. w.path) e))) (λ f. f) (reached_free x (shown_reached m then x h)) in
      let (y, k, q, u) = most_of Free free_sound x free old in
      let (z, j, r, w) = list_fit m then relisted y (rows_reached y k) in
      let zx : z ≡ x = sym (one_shown x z h j (q ∙ r) (old_apart x old)) in
      let same : x ≡ y = module_same x y q (upto_antisym versions x.version y.version u (rw (ap (λ g. g.version) zx) at w)) in
      rw same k

  kept_shown : (x : ModuleVersion) → OnOldPath cs x → x ∈ rows → x ∈ shown
  kept_shown x old h =
      let (z, j, r, w) = list_fit m then relisted x (rows_reached x h) in
      let (c, k, q) = old in
      let k2 = shown_kept z (c, k, q ∙ r) j in
      subst (λ y. y ∈ shown) (sym (one_a_path rows rows_kept.ascending x z h k2 r)) j

  -- the same as a test
  free : ModuleVersion → Bool
  free x = has (module_versions sheet) x && (not (same_path x s.main) && not (barred (view m s) cs 257 x))

  free_is : (x : ModuleVersion) → Free x → free x ≡ true
  unfolding free
  free_is x (h, apart, allowed) =
      and_from _ _ (has_from_member (module_versions sheet) x h)
      (and_from _ _ (ap not (not_equal_test paths x.path s.main apart)) (ap not (allowed_unbarred (view m s) cs 257 x allowed)))

  is_free : (x : ModuleVersion) → free x ≡ true → Free x
  unfolding free
  is_free x t =
      let (h, r) = and_parts (has (module_versions sheet) x) (not (same_path x s.main) && not (barred (view m s) cs 257 x)) t in
      let (a, b) = and_parts (not (same_path x s.main)) (not (barred (view m s) cs 257 x)) r in
      let on = member_from_has (module_versions sheet) x h in
      let apart = off_main_apart s.main x a in
      (on, apart, unbarred_allowed (view m s) cs (module_versions sheet) (walked_whole m s cs ok) x on apart (not-true (barred (view m s) cs 257 x) b))

  free_set : Sound (view m s) cs (λ x. free x ≡ true)
  free_set = record {
    available = λ x h. free_sound.available x (is_free x h);
    not_above = λ x h. free_sound.not_above x (is_free x h);
    closed = λ x y h q. free_is y (free_sound.closed x y (is_free x h) q);
  }

  kept_right_at : KeptRight (view m s) cs rows
  kept_right_at = record {
    ascending = rows_kept.ascending;
    on_old_paths = λ x h. old_path x (rows_kept.allowed x h).0;
    fits = rows_fit;
    highest = highest;
    in_sound_set = (free, free_set, λ x h. free_is x (rows_free x h));
    no_sound_set_above = λ set. most_of (λ x. set x ≡ true);
  }

  lower_right_at : KeptRight (view m s) cs (kept_rows (view m s) cs) × Relisted m s cs (kept_rows (view m s) cs)
  unfolding rows
  lower_right_at = (kept_right_at, record { listed = relisted; shows = λ x old. (shown_kept x old, kept_shown x old) })

pub lower_right : LowerRight
lower_right = lower_right_at
