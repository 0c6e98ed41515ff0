-- The law over all runs: each part of it holds at every state. Assumes nothing.
use Rattle.std.proofs.Common.{◌≡◌, ℕ, ◌-◌, ◌<◌, ◌≤◌, Bool, true, false, cond, ◌&&◌, leb, ◌⊎◌, ◌↔◌, List, [], length, take, replicate, Some, None, Option, sym, refl, ap, ◌∙◌, subst, inl, inr, ⊎_elim, arith, length-take}
use native.Mathlib.Nat.{sub-zero}
use Rattle.std.specs.List.{slice_get}
use Rattle.std.specs.Ordering.{is_le, is_lt}
use Rattle.std.proofs.lemmas.List.{take_all, take-append-le}
use Rattle.std.proofs.lemmas.Bool.{and_parts, and_from, cases_Bool}
use Rattle.rules.specs.Orders.{Bytes}
use Rattle.rules.specs.Versions.{version_order}
use Rattle.rules.specs.Names.{ModuleVersion, same_path, has}
use Rattle.rules.specs.Rows.{row_of, with_row, with_exclusion}
use Rattle.rules.specs.Causes.{Cause, too_many_module_versions, is_missing, Fault, Refusal, nothing_to_change, table_full, slice_too_short}
use Rattle.rules.specs.Sources.{found, fault, Meaning, Lawful}
use Rattle.rules.specs.Projects.{State, view, remaining, Few, with_rows, with_exclusions}
use Rattle.rules.specs.Walks.{Place, End, done, stopped, no_room, list_walk}
use Rattle.rules.specs.Lists.{list_of}
use Rattle.rules.specs.Faults.{Stopped, Broken, ShownOn}
use Rattle.rules.specs.Lowers.{after_main, can_lower, StandsAbove, ceilings, Above, offers, Listed, Offered, Faultless, FewMet, ManyMet, lower_walk, kept_rows, old_list, ceilings_at, LowerStopped}
use Rattle.rules.specs.Slices.{blank, blank_place, Lent, long_enough, TooShort, filled, holding}
use Rattle.rules.specs.Manifests.{manifest, unread}
use Rattle.rules.specs.Calls.{Call, load, raise, drop, exclude, lower, list, counted, refused, Outcome, refusal_for, refusal_at, refuses, unless, raised, dropped, excluded, replied, if_done, if_long_enough, lists, lowers_nothing, lowers_by, lowers, does}
use Rattle.rules.specs.Runs.{after, fresh, Gives, Counted, Refused, TurnedAway, fault_of, Least, Deserved, Overfull, Listing, Lowerable, Lowering, Lowered, Right, RunsRight}
use Rattle.rules.proofs.Order.{equal_from_test, test_from_equal, before_from_less, paths, versions}
use Rattle.rules.proofs.Sheets.{nth_first, short_256, first_was, first_distinct}
use Rattle.rules.proofs.Lists.{is_list, list_right_at}
use Rattle.rules.proofs.Faults.{refusal_right_at, shown_on, many}
use Rattle.rules.proofs.Reached.{main_or_apart, list_sheet, answered_before, sheet_distinct, sheet_reached, reached_sheet}
use Rattle.rules.proofs.Layers.{layer_lawful}
use Rattle.rules.proofs.Offers.{ceilings_apart, ceilings_ascend, Ordered, offers_ordered}
use Rattle.rules.proofs.LowerWalks.{lower_sheet, sheet_met, lower_stopped, faultless_before, over_256, many_met, lower_done, listings, few_rows, main_on, offer_on, met_on, faultless, few_met}
use Rattle.rules.proofs.Marks.{some_there, there_some}
use Rattle.rules.proofs.Lowers.{lower_right}
use Rattle.rules.proofs.Slices.{filled_length, long_sheet, long_list, sheet_room, list_room, on_slice, no_room_256}

-- a refused call leaves the state as it was

unless_keeps : (test : Bool) (c : Cause) (s new : State) → Refused (unless test c s new) → (unless test c s new).state ≡ s
unless_keeps true c s new r = refl
unless_keeps false c s new (r, e) = let z : ◌≡◌ {A = ℕ} 0 1 = cc in absurd (omega arith)

raised_keeps : (s : State) (x : ModuleVersion) (o : Option ModuleVersion) → Refused (raised s x o) → (raised s x o).state ≡ s
raised_keeps s x (Some y) r = unless_keeps (is_le (version_order x.version y.version)) nothing_to_change s (with_rows s (with_row x s.rows)) r
raised_keeps s x None r = unless_keeps (leb 256 (length s.rows)) table_full s (with_rows s (with_row x s.rows)) r

dropped_keeps : (s : State) (p : Bytes) (o : Option ModuleVersion) → Refused (dropped s p o) → (dropped s p o).state ≡ s
dropped_keeps s p (Some y) (r, e) = let z : ◌≡◌ {A = ℕ} 0 1 = cc in absurd (omega arith)
dropped_keeps s p None r = refl

excluded_keeps : (s : State) (x : ModuleVersion) → Refused (excluded s x) → (excluded s x).state ≡ s
excluded_keeps s x = go (has s.exclusions x)
  where
    more : Outcome
    more = unless (leb 32 (length s.exclusions)) table_full s (with_exclusions s (with_exclusion x s.exclusions))

    go : (b : Bool) → Refused (cond b (refuses s (refusal_for nothing_to_change)) more) → (cond b (refuses s (refusal_for nothing_to_change)) more).state ≡ s
    go true r = refl
    go false r = unless_keeps (leb 32 (length s.exclusions)) table_full s (with_exclusions s (with_exclusion x s.exclusions)) r

long_keeps : (n : Lent) (s : State) (o : Outcome) → (Refused o → o.state ≡ s) → Refused (if_long_enough n s o) → (if_long_enough n s o).state ≡ s
long_keeps n s o h = go (long_enough n)
  where
    short : Outcome
    short = record { reply = refused (refusal_for slice_too_short); state = s; slices = holding n [] [] }

    go : (b : Bool) → Refused (cond b o short) → (cond b o short).state ≡ s
    go true r = h r
    go false r = refl

module _ (m : Meaning) (s : State) where
  lowering_keeps : (n : Lent) (cs : List ModuleVersion) → Refused (lowers_by m s n cs) → (lowers_by m s n cs).state ≡ s
  lowering_keeps n cs (r, e) = go (lower_walk m s cs).end e
    where
      go : (w : End) → replied w (length (lower_walk m s cs).sheet) (length (old_list m s)) ≡ refused r → if_done w (with_rows s (kept_rows (view m s) cs)) s ≡ s
      go done q = let z : ◌≡◌ {A = ℕ} 0 1 = cc in absurd (omega arith)
      go (stopped k f) q = refl
      go no_room q = refl

  lowers_keeps : (p v : Bytes) (n : Lent) → Refused (lowers m s p v n) → (lowers m s p v n).state ≡ s
  lowers_keeps p v n = by_list (list_walk m s).end
    where
      by_test : (b : Bool) → Refused (cond b (lowers_by m s n (ceilings_at m s p v)) (lowers_nothing m s n)) → (cond b (lowers_by m s n (ceilings_at m s p v)) (lowers_nothing m s n)).state ≡ s
      by_test true r = lowering_keeps n (ceilings_at m s p v) r
      by_test false r = refl

      chosen : Outcome
      chosen = cond (can_lower p v (old_list m s)) (lowers_by m s n (ceilings_at m s p v)) (lowers_nothing m s n)

      by_list : (w : End) → Refused (if_done w chosen (lists m s n)) → (if_done w chosen (lists m s n)).state ≡ s
      by_list done r = by_test (can_lower p v (old_list m s)) r
      by_list (stopped k f) r = refl
      by_list no_room r = refl

  refuses_right : (c : Call) → Refused (does m s c) → (does m s c).state ≡ s
  unfolding does
  refuses_right (load (manifest t)) (r, e) = let z : ◌≡◌ {A = ℕ} 0 1 = cc in absurd (omega arith)
  refuses_right (load (unread c k)) r = refl
  refuses_right (raise x) r = raised_keeps s x (row_of x.path s.rows) r
  refuses_right (drop p) r = dropped_keeps s p (row_of p s.rows) r
  refuses_right (exclude x) r = excluded_keeps s x r
  refuses_right (lower p v n) r = long_keeps n s (lowers m s p v n) (lowers_keeps p v n) r
  refuses_right (list n) r = long_keeps n s (lists m s n) (λ q. refl) r

  -- a list

  long_list_is : (n : Lent) → long_enough n ≡ true → does m s (list n) ≡ lists m s n
  unfolding does
  long_list_is n w = rw w

  pub list_gives : (n : Lent) → long_enough n ≡ true → (list_walk m s).end ≡ done → Gives (does m s (list n)) n (old_list m s)
  list_gives n w ok =
      subst (λ o. Gives o n (old_list m s)) (sym (long_list_is n w))
      ((length (list_walk m s).sheet, ap (λ e. replied e (length (list_walk m s).sheet) (length (old_list m s))) ok), ap (λ e. filled blank n.list (if_done e (old_list m s) [])) ok)

  long_counted : (n : Lent) (o : Outcome) → Counted (if_long_enough n s o) → (long_enough n ≡ true) × Counted o
  long_counted n o = go (long_enough n)
    where
      short : Outcome
      short = record { reply = refused (refusal_for slice_too_short); state = s; slices = holding n [] [] }

      go : (b : Bool) → Counted (cond b o short) → (b ≡ true) × Counted o
      go true g = (refl, g)
      go false (k, c, e) = let z : ◌≡◌ {A = ℕ} 0 1 = cc in absurd (omega arith)

  replied_done : (e : End) (a b k c : ℕ) → replied e a b ≡ counted k c → e ≡ done
  replied_done done a b k c q = refl
  replied_done (stopped i f) a b k c q = let z : ◌≡◌ {A = ℕ} 0 1 = cc in absurd (omega arith)
  replied_done no_room a b k c q = let z : ◌≡◌ {A = ℕ} 0 1 = cc in absurd (omega arith)

  list_given : (n : Lent) → Counted (does m s (list n)) → (long_enough n ≡ true) × ((list_walk m s).end ≡ done)
  unfolding does
  list_given n g =
      let (w, (k, c, e)) = long_counted n (lists m s n) g in
      (w, replied_done (list_walk m s).end (length (list_walk m s).sheet) (length (old_list m s)) k c e)

  least_right : (n : Lent) → Counted (does m s (list n)) → (l : List ModuleVersion) × Gives (does m s (list n)) n l × Least m s l
  least_right n g = let (w, ok) = list_given n g in (old_list m s, list_gives n w ok, list_right_at m s ok)

  -- what is given is one list
  given_once : (n : Lent) (o : Outcome) (k l : List ModuleVersion) → Gives o n k → Gives o n l → k ≡ l
  given_once n o k l ((i, a), b) ((j, c), d) =
      let same : length k ≡ length l = cc in
      front k ∙ sym (ap (take (length k)) b) ∙ ap (take (length k)) d ∙ ap (λ h. take h (filled blank n.list l)) same ∙ sym (front l)
    where
      front : (xs : List ModuleVersion) → xs ≡ take (length xs) (filled blank n.list xs)
      front xs = sym (take-append-le (length xs) xs (replicate (n.list - length xs) blank) (omega arith) ∙ take_all (length xs) xs (omega arith))

  -- so it is the one that the walk makes
  given_old : (n : Lent) (l : List ModuleVersion) → Gives (does m s (list n)) n l → (long_enough n ≡ true) × ((list_walk m s).end ≡ done) × (old_list m s ≡ l)
  given_old n l g =
      let ((k, e), b) = g in
      let (w, ok) = list_given n (k, length l, e) in
      (w, ok, given_once n (does m s (list n)) (old_list m s) l (list_gives n w ok) g)

  -- a refusal

  module _ (n : Lent) where
    abbrev places : ℕ
    places = length (list_walk m s).sheet

    abbrev rows : ℕ
    rows = length (old_list m s)

    -- where the walk was stopped, the refusal tells by what
    told : (p : ℕ) (f : Fault) (r : Refusal) → (list_walk m s).end ≡ stopped p f → (lists m s n).reply ≡ refused r → (list_walk m s).end ≡ stopped r.sheet_place (fault_of r)
    told p f r e q =
        let z : refused r ≡ refused (refusal_at p f) = sym q ∙ ap (λ w. replied w places rows) e in
        let same : r ≡ refusal_at p f = cc in
        e ∙ ap (λ w. stopped w.sheet_place (fault_of w)) (sym same)

    listing : long_enough n ≡ true → Listing m s n (does m s (list n))
    listing w = subst (Listing m s n) (sym (long_list_is n w)) (record {
      sheet = take 256 (list_walk m s).sheet;
      holds = refl;
      right = list_sheet m s;
      places = λ k c q. let ok = walked k c q in let z : counted k c ≡ counted places rows = sym q ∙ ap (λ e. replied e places rows) ok in rw (whole (λ e. let y : ◌≡◌ {A = ℕ} 0 1 = cc in omega arith)) (cc);
      all_reached = λ (k, c, q) x. let ok = walked k c q in rw (whole (λ e. let y : ◌≡◌ {A = ℕ} 0 1 = cc in omega arith)) (sheet_reached m s x, reached_sheet m s ok x);
      first_fault = λ r q i p pos lt e. before (list_walk m s).end refl r q i p pos lt (nth_first 256 (list_walk m s).sheet i p e).0;
    })
      where
        walked : (k c : ℕ) → (lists m s n).reply ≡ counted k c → (list_walk m s).end ≡ done
        walked k c q = replied_done (list_walk m s).end places rows k c q

        whole : ((list_walk m s).end ≡ no_room → ⊥) → take 256 (list_walk m s).sheet ≡ (list_walk m s).sheet
        whole h = take_all 256 (list_walk m s).sheet (sheet_room m s h)

        before : (e : End) → (list_walk m s).end ≡ e → (r : Refusal) → replied e places rows ≡ refused r → (i : ℕ) (q : Place) → 0 < i → i < r.sheet_place → slice_get (list_walk m s).sheet i ≡ Some q
            → (xs : List ModuleVersion) × (remaining (view m s) q.row ≡ found xs)
        before done t r h i q pos lt e = let z : ◌≡◌ {A = ℕ} 0 1 = cc in absurd (omega arith)
        before (stopped k f) t r h i q pos lt e = let same : refusal_at k f ≡ r = cc in answered_before m s k f t i q pos (subst (λ (w : Refusal). i < w.sheet_place) (sym same) lt) e
        before no_room t r h i q pos lt e =
            let same : refusal_for too_many_module_versions ≡ r = cc in
            let none : i < 0 = subst (λ (w : Refusal). i < w.sheet_place) (sym same) lt in
            absurd (omega arith)

    shows : (r : Refusal) → (list_walk m s).end ≡ stopped r.sheet_place (fault_of r) → ShownOn m s (lists m s n).slices.sheet r.sheet_place (fault_of r)
    shows r e =
        shown_on m s (filled blank_place n.sheet (take 256 (list_walk m s).sheet)) (on_slice m s n.sheet (λ f. let z : ◌≡◌ {A = ℕ} 0 1 = cc in omega arith))
        r.sheet_place (fault_of r) e

    explains_right : long_enough n ≡ true → (r : Refusal) → (does m s (list n)).reply ≡ refused r
        → ShownOn m s (does m s (list n)).slices.sheet r.sheet_place (fault_of r) ⊎ ((r ≡ refusal_for too_many_module_versions) × Overfull m s n (does m s (list n)))
    explains_right w r = subst Explains (sym (long_list_is n w)) (λ q. go (list_walk m s).end refl q)
      where
        Explains : Outcome → Type 0
        Explains o = o.reply ≡ refused r → ShownOn m s o.slices.sheet r.sheet_place (fault_of r) ⊎ ((r ≡ refusal_for too_many_module_versions) × Overfull m s n o)

        go : (e : End) → (list_walk m s).end ≡ e → replied e places rows ≡ refused r
            → ShownOn m s (lists m s n).slices.sheet r.sheet_place (fault_of r) ⊎ ((r ≡ refusal_for too_many_module_versions) × Overfull m s n (lists m s n))
        go done e q = let z : ◌≡◌ {A = ℕ} 0 1 = cc in absurd (omega arith)
        go (stopped p f) e q = inl (shows r (told p f r e (ap (λ w. replied w places rows) e ∙ q)))
        go no_room e q = inr (let same : refusal_for too_many_module_versions ≡ r = cc in sym same, (many m s e, (take 256 (list_walk m s).sheet, no_room_256 m s e, refl, first_distinct 256 (list_walk m s).sheet (sheet_distinct m s), λ x h. sheet_reached m s x (first_was 256 (list_walk m s).sheet x h))))

    deserved_right : long_enough n ≡ true → Few m s → Deserved m s (does m s (list n))
    deserved_right w few = subst (Deserved m s) (sym (long_list_is n w)) (either, (to, from), λ r q. shows r (stopped_at r q))
      where
        refused_at : Stopped m s → Refused (lists m s n)
        refused_at (p, f, e) = (refusal_at p f, ap (λ w. replied w places rows) e)

        either : Counted (lists m s n) ⊎ Refused (lists m s n)
        either = ⊎_elim (λ e. inl (places, rows, ap (λ w. replied w places rows) e)) (λ h. inr (refused_at h)) ((refusal_right_at m s).0 few).0

        stopped_at : (r : Refusal) → (lists m s n).reply ≡ refused r → (list_walk m s).end ≡ stopped r.sheet_place (fault_of r)
        stopped_at r q =
            ⊎_elim
            (λ e. let z : refused r ≡ counted places rows = sym q ∙ ap (λ w. replied w places rows) e in let y : ◌≡◌ {A = ℕ} 0 1 = cc in absurd (omega arith))
            (λ (p, f, e). told p f r e q)
            ((refusal_right_at m s).0 few).0

        to : Refused (lists m s n) → Broken m s
        to (r, q) = ((refusal_right_at m s).0 few).1.0 (r.sheet_place, fault_of r, stopped_at r q)

        from : Broken m s → Refused (lists m s n)
        from b = refused_at (((refusal_right_at m s).0 few).1.1 b)

  blank_right : (n : Lent) → Refused (does m s (list n)) → (does m s (list n)).slices.list ≡ replicate n.list blank
  unfolding does
  blank_right n = by_width (long_enough n)
    where
      all_blank : filled blank n.list [] ≡ replicate n.list blank
      all_blank = ap (λ k. replicate k blank) (sub-zero n.list)

      by_end : (e : End) → (r : Refusal) → replied e (length (list_walk m s).sheet) (length (old_list m s)) ≡ refused r → filled blank n.list (if_done e (old_list m s) []) ≡ replicate n.list blank
      by_end done r q = let z : ◌≡◌ {A = ℕ} 0 1 = cc in absurd (omega arith)
      by_end (stopped k f) r q = all_blank
      by_end no_room r q = all_blank

      by_width : (b : Bool) → Refused (cond b (lists m s n) (record { reply = refused (refusal_for slice_too_short); state = s; slices = holding n [] [] }))
          → (cond b (lists m s n) (record { reply = refused (refusal_for slice_too_short); state = s; slices = holding n [] [] })).slices.list ≡ replicate n.list blank
      by_width true (r, q) = by_end (list_walk m s).end r q
      by_width false h = all_blank

  -- a lower

  module _ (p v : Bytes) (n : Lent) where
    abbrev cs : List ModuleVersion
    cs = ceilings_at m s p v

    -- an accepted one
    abbrev settled : Outcome
    settled = record {
      reply = counted (length (lower_walk m s cs).sheet) (length (old_list m s));
      state = with_rows s (kept_rows (view m s) cs);
      slices = holding n (lower_walk m s cs).sheet (old_list m s);
    }

    -- it goes to work
    works : long_enough n ≡ true → (list_walk m s).end ≡ done → can_lower p v (old_list m s) ≡ true → does m s (lower p v n) ≡ lowers_by m s n cs
    unfolding does
    works w l t =
        ap (λ b. cond b (lowers m s p v n) (record { reply = refused (refusal_for slice_too_short); state = s; slices = holding n [] [] })) w
        ∙ ap (λ e. if_done e (cond (can_lower p v (old_list m s)) (lowers_by m s n cs) (lowers_nothing m s n)) (lists m s n)) l
        ∙ ap (λ b. cond b (lowers_by m s n cs) (lowers_nothing m s n)) t

    settles : long_enough n ≡ true → (list_walk m s).end ≡ done → can_lower p v (old_list m s) ≡ true → (lower_walk m s cs).end ≡ done → does m s (lower p v n) ≡ settled
    settles w l t e =
        works w l t
        ∙ ap (λ e. record {
          reply = replied e (length (lower_walk m s cs).sheet) (length (old_list m s));
          state = if_done e (with_rows s (kept_rows (view m s) cs)) s;
          slices = holding n (lower_walk m s cs).sheet (old_list m s);
        }) e

    lower_given : Counted (does m s (lower p v n)) → (long_enough n ≡ true) × ((list_walk m s).end ≡ done) × (can_lower p v (old_list m s) ≡ true) × ((lower_walk m s cs).end ≡ done)
    unfolding does
    lower_given g = let (w, h) = long_counted n (lowers m s p v n) g in by_list w (list_walk m s).end refl h
      where
        chosen : Bool → Outcome
        chosen b = cond b (lowers_by m s n cs) (lowers_nothing m s n)

        by_test : long_enough n ≡ true → (list_walk m s).end ≡ done → (b : Bool) → can_lower p v (old_list m s) ≡ b → Counted (chosen b)
            → (long_enough n ≡ true) × ((list_walk m s).end ≡ done) × (can_lower p v (old_list m s) ≡ true) × ((lower_walk m s cs).end ≡ done)
        by_test w l true t (k, c, q) = (w, l, t, replied_done (lower_walk m s cs).end (length (lower_walk m s cs).sheet) (length (old_list m s)) k c q)
        by_test w l false t (k, c, q) = let z : ◌≡◌ {A = ℕ} 0 1 = cc in absurd (omega arith)

        -- a list that is refused is not given
        unlisted : (e : End) → (list_walk m s).end ≡ e → (e ≡ done → ⊥) → Counted (lists m s n) → ⊥
        unlisted e l other (k, c, q) = other (sym l ∙ replied_done (list_walk m s).end (length (list_walk m s).sheet) (length (old_list m s)) k c q)

        by_list : long_enough n ≡ true → (e : End) → (list_walk m s).end ≡ e → Counted (if_done e (chosen (can_lower p v (old_list m s))) (lists m s n))
            → (long_enough n ≡ true) × ((list_walk m s).end ≡ done) × (can_lower p v (old_list m s) ≡ true) × ((lower_walk m s cs).end ≡ done)
        by_list w done l h = by_test w l (can_lower p v (old_list m s)) refl h
        by_list w (stopped k f) l h = absurd (unlisted (stopped k f) l (λ e. let z : ◌≡◌ {A = ℕ} 0 1 = cc in omega arith) h)
        by_list w no_room l h = absurd (unlisted no_room l (λ e. let z : ◌≡◌ {A = ℕ} 0 1 = cc in omega arith) h)

  lists_first_right : (p v : Bytes) (n : Lent) → Refused (does m s (list n)) → does m s (lower p v n) ≡ does m s (list n)
  unfolding does
  lists_first_right p v n = by_width (long_enough n)
    where
      short : Outcome
      short = record { reply = refused (refusal_for slice_too_short); state = s; slices = holding n [] [] }

      chosen : Outcome
      chosen = cond (can_lower p v (old_list m s)) (lowers_by m s n (ceilings_at m s p v)) (lowers_nothing m s n)

      by_end : (e : End) → (r : Refusal) → replied e (length (list_walk m s).sheet) (length (old_list m s)) ≡ refused r → if_done e chosen (lists m s n) ≡ lists m s n
      by_end done r q = let z : ◌≡◌ {A = ℕ} 0 1 = cc in absurd (omega arith)
      by_end (stopped k f) r q = refl
      by_end no_room r q = refl

      by_width : (b : Bool) → Refused (cond b (lists m s n) short) → cond b (lowers m s p v n) short ≡ cond b (lists m s n) short
      by_width true (r, q) = by_end (list_walk m s).end r q
      by_width false h = refl

  -- what stands above the version

  can_from : (p v : Bytes) (l : List ModuleVersion) → StandsAbove p v l → can_lower p v l ≡ true
  can_from p v l (x, h, q, u) =
      there_some (λ x. same_path x p && is_lt (version_order v x.version)) (after_main l) x h (and_from _ _ (test_from_equal paths x.path p q) (ap is_lt u))

  from_can : (p v : Bytes) (l : List ModuleVersion) → can_lower p v l ≡ true → StandsAbove p v l
  from_can p v l t =
      let (x, h, both) = some_there (λ x. same_path x p && is_lt (version_order v x.version)) (after_main l) t in
      let (q, u) = and_parts (same_path x p) (is_lt (version_order v x.version)) both in
      (x, h, equal_from_test paths x.path p q, before_from_less versions v x.version u)

  idle_right : (p v : Bytes) (n : Lent) (l : List ModuleVersion) → Gives (does m s (list n)) n l → (StandsAbove p v l → ⊥)
      → ((does m s (lower p v n)).reply ≡ refused (refusal_for nothing_to_change)) × ((does m s (lower p v n)).slices ≡ (does m s (list n)).slices)
  unfolding does
  idle_right p v n l g none =
      let (w, ok, same) = given_old n l g in
      let cannot : can_lower p v (old_list m s) ≡ false = ⊎_elim (λ t. absurd (none (subst (StandsAbove p v) same (from_can p v (old_list m s) t)))) (λ t. t) (cases_Bool (can_lower p v (old_list m s))) in
      let e : if_long_enough n s (lowers m s p v n) ≡ lowers_nothing m s n =
      ap (λ b. cond b (lowers m s p v n) (record { reply = refused (refusal_for slice_too_short); state = s; slices = holding n [] [] })) w
      ∙ ap (λ e. if_done e (cond (can_lower p v (old_list m s)) (lowers_by m s n (ceilings_at m s p v)) (lowers_nothing m s n)) (lists m s n)) ok
      ∙ ap (λ b. cond b (lowers_by m s n (ceilings_at m s p v)) (lowers_nothing m s n)) cannot
      in
      (ap (λ o. o.reply) e, ap (λ o. o.slices) e ∙ sym (ap (λ o. o.slices) (long_list_is n w)))

  -- slices that are too short

  not_long : (n : Lent) → TooShort n → long_enough n ≡ false
  not_long n h =
      ⊎_elim (λ w. absurd (⊎_elim (λ k. omega (arith, long_sheet n w)) (λ k. omega (arith, long_list n w)) h)) (λ w. w) (cases_Bool (long_enough n))

  turned_away : (n : Lent) (o : Outcome) → TooShort n → TurnedAway n (if_long_enough n s o)
  turned_away n o h =
      subst (λ b. TurnedAway n (cond b o (record { reply = refused (refusal_for slice_too_short); state = s; slices = holding n [] [] }))) (sym (not_long n h))
      (refl, ap (λ k. replicate k blank_place) (sub-zero n.sheet), ap (λ k. replicate k blank) (sub-zero n.list))

  list_short_right : (n : Lent) → TooShort n → TurnedAway n (does m s (list n))
  unfolding does
  list_short_right n h = turned_away n (lists m s n) h

  lower_short_right : (p v : Bytes) (n : Lent) → TooShort n → TurnedAway n (does m s (lower p v n))
  unfolding does
  lower_short_right p v n h = turned_away n (lowers m s p v n) h

  looks_right : (n : Lent) → (does m s (list n)).state ≡ s
  unfolding does
  looks_right n = go (long_enough n)
    where
      go : (b : Bool) → (cond b (lists m s n) (record { reply = refused (refusal_for slice_too_short); state = s; slices = holding n [] [] })).state ≡ s
      go true = refl
      go false = refl

-- a lower that goes to work

module _ (m : Meaning) (law : Lawful m) (s : State) (p v : Bytes) (n : Lent) where
  abbrev ceils : List ModuleVersion
  ceils = ceilings_at m s p v

  abbrev lower_places : List Place
  lower_places = (lower_walk m s ceils).sheet

  -- no offer is on the main path
  off : (x : ModuleVersion) → Offered (view m s).layer ceils x → x.path ≡ s.main → ⊥
  off x (c, h, q, u, l) e = ceilings_apart s p v (old_list m s) (is_list s (list_walk m s).sheet) c h (q ∙ e)

  in_order : Ordered (offers (view m s).layer ceils)
  in_order = offers_ordered (view m s).layer (layer_lawful m s.exclusions law).ascending ceils (ceilings_ascend s p v (old_list m s) (is_list s (list_walk m s).sheet))

  lowering : long_enough n ≡ true → Lowering m s p v n (old_list m s) (lowers_by m s n ceils)
  lowering w = record {
    old = refl;
    sheet = take 256 lower_places;
    holds = refl;
    right = lower_sheet m s ceils in_order;
    places = λ k rows q. let ok = ended k rows q in let z : counted k rows ≡ counted (length lower_places) (length (old_list m s)) = sym q ∙ ap (λ e. replied e (length lower_places) (length (old_list m s))) ok in rw (all ok) (cc);
    all_offered = λ (k, rows, q) x h. let ok = ended k rows q in rw (all ok) (offer_on m s ceils ok x h);
    all_met = λ (k, rows, q) x. let ok = ended k rows q in rw (all ok) (sheet_met m s ceils x, λ h. ⊎_elim (λ e. rw e (main_on m s ceils ok)) (met_on m s ceils ok off) h);
    refusal = λ r q. shows (lower_walk m s ceils).end refl r q;
    first_fault = λ r q i h pos lt e. before (lower_walk m s ceils).end refl r q i h pos lt (nth_first 256 lower_places i h e).0;
  }
    where
      ended : (k rows : ℕ) → (lowers_by m s n ceils).reply ≡ counted k rows → (lower_walk m s ceils).end ≡ done
      ended k rows q = replied_done m s (lower_walk m s ceils).end (length lower_places) (length (old_list m s)) k rows q

      all : (lower_walk m s ceils).end ≡ done → take 256 lower_places ≡ lower_places
      all ok = take_all 256 lower_places (few_rows m s ceils ok)

      before : (e : End) → (lower_walk m s ceils).end ≡ e → (r : Refusal) → replied e (length lower_places) (length (old_list m s)) ≡ refused r
          → (i : ℕ) (q : Place) → 0 < i → i < r.sheet_place → slice_get lower_places i ≡ Some q
          → (Above ceils q.row → ⊥) → (f : Fault) → remaining (view m s) q.row ≡ fault f → is_missing f.cause ≡ true
      before done t r h i q pos lt e = let z : ◌≡◌ {A = ℕ} 0 1 = cc in absurd (omega arith)
      before (stopped k f) t r h i q pos lt e = let same : refusal_at k f ≡ r = cc in faultless_before m s ceils k f t i q pos (subst (λ (w : Refusal). i < w.sheet_place) (sym same) lt) e
      before no_room t r h i q pos lt e =
          let same : refusal_for too_many_module_versions ≡ r = cc in
          let none : i < 0 = subst (λ (w : Refusal). i < w.sheet_place) (sym same) lt in
          absurd (omega arith)

      shows : (e : End) → (lower_walk m s ceils).end ≡ e → (r : Refusal) → replied e (length lower_places) (length (old_list m s)) ≡ refused r
          → LowerStopped m s ceils (take 256 lower_places) r.sheet_place (fault_of r)
          ⊎ ((r ≡ refusal_for too_many_module_versions) × (length (take 256 lower_places) ≡ 256) × ManyMet m s ceils)
      shows done t r q = let z : ◌≡◌ {A = ℕ} 0 1 = cc in absurd (omega arith)
      shows (stopped k f) t r q =
          let same : refusal_at k f ≡ r = cc in
          inl (subst (λ w. LowerStopped m s ceils (take 256 lower_places) w.sheet_place (fault_of w)) same (lower_stopped m s ceils k f t))
      shows no_room t r q =
          let same : refusal_for too_many_module_versions ≡ r = cc in
          inr (sym same, omega (arith, length-take 256 lower_places, over_256 m s ceils t), many_met m s ceils t)

  shown_right : (l : List ModuleVersion) → Gives (does m s (list n)) n l → StandsAbove p v l → Lowering m s p v n l (does m s (lower p v n))
  shown_right l g st =
      let (w, ok, same) = given_old m s n l g in
      let can = can_from m s p v (old_list m s) (subst (StandsAbove p v) (sym same) st) in
      subst (λ k. Lowering m s p v n k (does m s (lower p v n))) same (subst (Lowering m s p v n (old_list m s)) (sym (works m s p v n w ok can)) (lowering w))

  accepted_right : Counted (does m s (lower p v n)) ↔ Lowerable m s p v n
  accepted_right = (to, from)
    where
      to : Counted (does m s (lower p v n)) → Lowerable m s p v n
      to g = let (w, l, t, e) = lower_given m s p v n g in record {
        old = old_list m s;
        given = list_gives m s n w l;
        stands = from_can m s p v (old_list m s) t;
        listed = listings m s ceils e;
        faultless = faultless m s ceils e off;
        few = few_met m s ceils e off;
      }

      from : Lowerable m s p v n → Counted (does m s (lower p v n))
      from c =
          let (w, l, same) = given_old m s n c.old c.given in
          let can = can_from m s p v (old_list m s) (subst (StandsAbove p v) (sym same) c.stands) in
          let there = sym (ap (ceilings p v) same) in
          let ok = lower_done m s ceils (subst (Listed (view m s).layer) there c.listed) (subst (Faultless (view m s)) there c.faultless) (subst (FewMet m s) there c.few) in
          (length lower_places, length (old_list m s), ap (λ o. o.reply) (settles m s p v n w l can ok))

lowers_right : (m : Meaning) → Lawful m → (s : State) (p v : Bytes) (n : Lent) → Counted (does m s (lower p v n)) → Lowered m s p v n (does m s (lower p v n))
lowers_right m law s p v n g =
    let (w, l, t, e) = lower_given m s p v n g in
    let (kept, again) = lower_right m law s p v e in
    subst (Lowered m s p v n) (sym (settles m s p v n w l t e)) (record {
      old = old_list m s;
      gives = ((length (lower_walk m s (ceilings_at m s p v)).sheet, refl), refl);
      least = list_right_at m s l;
      rest = (refl, refl);
      kept = kept;
      relisted = λ k wk. (list_of (then m s p v) (list_walk m (then m s p v)).sheet, list_gives m (then m s p v) k wk again.listed, again.shows);
    })
  where
    then : Meaning → State → Bytes → Bytes → State
    then m s p v = with_rows s (kept_rows (view m s) (ceilings_at m s p v))

-- the slices' lengths

module _ (m : Meaning) (s : State) where
  abbrev Whole : Lent → Outcome → Type 0
  Whole n o = (length o.slices.sheet ≡ n.sheet) × (length o.slices.list ≡ n.list)

  held : (n : Lent) (sheet : List Place) (rows : List ModuleVersion) → long_enough n ≡ true → length rows ≤ 256
      → (length (holding n sheet rows).sheet ≡ n.sheet) × (length (holding n sheet rows).list ≡ n.list)
  held n sheet rows w h = (
    filled_length blank_place n.sheet (take 256 sheet) (omega (arith, short_256 sheet, long_sheet n w)),
    filled_length blank n.list rows (omega (arith, long_list n w)),
  )

  long_whole : (n : Lent) (o : Outcome) → (long_enough n ≡ true → Whole n o) → Whole n (if_long_enough n s o)
  long_whole n o h = go (long_enough n) refl
    where
      go : (b : Bool) → long_enough n ≡ b → Whole n (cond b o (record { reply = refused (refusal_for slice_too_short); state = s; slices = holding n [] [] }))
      go true e = h e
      go false e = (filled_length blank_place n.sheet [] (omega arith), filled_length blank n.list [] (omega arith))

  listing_whole : (n : Lent) → long_enough n ≡ true → Whole n (lists m s n)
  listing_whole n w = held n (list_walk m s).sheet (if_done (list_walk m s).end (old_list m s) []) w (go (list_walk m s).end refl)
    where
      go : (e : End) → (list_walk m s).end ≡ e → length (if_done e (old_list m s) []) ≤ 256
      go done q = list_room m s q
      go (stopped k f) q = omega arith
      go no_room q = omega arith

  lowers_whole : (p v : Bytes) (n : Lent) → long_enough n ≡ true → Whole n (lowers m s p v n)
  lowers_whole p v n w = by_list (list_walk m s).end refl
    where
      chosen : Bool → Outcome
      chosen b = cond b (lowers_by m s n (ceilings_at m s p v)) (lowers_nothing m s n)

      by_test : (list_walk m s).end ≡ done → (b : Bool) → Whole n (chosen b)
      by_test q true = held n (lower_walk m s (ceilings_at m s p v)).sheet (old_list m s) w (list_room m s q)
      by_test q false = listing_whole n w

      by_list : (e : End) → (list_walk m s).end ≡ e → Whole n (if_done e (chosen (can_lower p v (old_list m s))) (lists m s n))
      by_list done q = by_test q (can_lower p v (old_list m s))
      by_list (stopped k f) q = listing_whole n w
      by_list no_room q = listing_whole n w

  lengths_right : (n : Lent) → Whole n (does m s (list n))
  unfolding does
  lengths_right n = long_whole n (lists m s n) (listing_whole n)

  lower_lengths_right : (p v : Bytes) (n : Lent) → Whole n (does m s (lower p v n))
  unfolding does
  lower_lengths_right p v n = long_whole n (lowers m s p v n) (lowers_whole p v n)

-- the law holds in every state, whatever the calls that led to it
pub right_at : (m : Meaning) → Lawful m → (s : State) → Right m s
right_at m law s = record {
  refused_unchanged = refuses_right m s;
  list_least = least_right m s;
  list_shown = listing m s;
  main_alone = λ x r p. ⊎_elim (λ e. e) (λ off. absurd (off p)) (main_or_apart m s x r);
  refusal_shown = explains_right m s;
  refusal_deserved = deserved_right m s;
  refused_blank = blank_right m s;
  lower_lists_first = lists_first_right m s;
  lower_idle = idle_right m s;
  lower_shown = λ p v n. shown_right m law s p v n;
  lower_accepted = λ p v n. accepted_right m law s p v n;
  lower_kept = lowers_right m law s;
  list_short = list_short_right m s;
  lower_short = lower_short_right m s;
  list_lengths = lengths_right m s;
  lower_lengths = lower_lengths_right m s;
  list_unchanged = looks_right m s;
}

pub runs_right : RunsRight
runs_right m law calls = right_at m law (after m fresh calls)
