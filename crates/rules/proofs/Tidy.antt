-- The calls keep both tables ascending and in bounds. Assumes nothing.
use Rattle.std.proofs.Common.{◌≡◌, ◌≤◌, Bool, true, false, cond, leb, List, [], ◌∷◌, length, Some, None, Option, refl, arith}
use Rattle.std.specs.Ordering.{is_le}
use Rattle.std.specs.List.{AllByRecursion}
use Rattle.std.proofs.lemmas.Bool.{leb-false}
use Rattle.rules.specs.Orders.{Bytes}
use Rattle.rules.specs.Paths.{path_order}
use Rattle.rules.specs.Versions.{version_order}
use Rattle.rules.specs.Names.{ModuleVersion, module_order, has}
use Rattle.rules.specs.Tables.{keep}
use Rattle.rules.specs.Rows.{own, path_of, higher, AscendingRows, row_of, with_row, without_row, with_exclusion}
use Rattle.rules.specs.Causes.{Cause, nothing_to_change, table_full, slice_too_short}
use Rattle.rules.specs.Sources.{Meaning}
use Rattle.rules.specs.Projects.{State, view, with_rows, with_exclusions}
use Rattle.rules.specs.Walks.{module_versions, End, done, stopped, no_room, list_walk}
use Rattle.rules.specs.Lowers.{can_lower, lower_walk, kept_rows, old_list, ceilings_at}
use Rattle.rules.specs.Slices.{Lent, long_enough, holding}
use Rattle.rules.specs.Manifests.{manifest, unread}
use Rattle.rules.specs.Calls.{Call, load, raise, drop, exclude, lower, list, refused, Outcome, refusal_for, refuses, unless, raised, dropped, excluded, if_done, if_long_enough, lists, lowers_nothing, lowers_by, lowers, does}
use Rattle.rules.specs.Runs.{after, fresh, Tidy, InBounds, TidyRight}
use Rattle.rules.proofs.Order.{paths}
use Rattle.rules.proofs.Order as order
use Rattle.rules.proofs.Members.{distinct_length}
use Rattle.rules.proofs.Tables.{ascending_distinct, lookup_there, entered_old, entered_most, entered_all_most, entered_keep_ascending, joined_ascending, removed_ascending, removed_most}
use Rattle.rules.proofs.Rows.{with_row_ascending, table_ascending}
use Rattle.rules.proofs.Sheets.{length_module_versions}
use Rattle.rules.proofs.Offers.{offered_offers}
use Rattle.rules.proofs.LowerWalks.{few_rows, start_on}
use Rattle.rules.proofs.Marks.{kept}

-- the calls

with_rows_tidy : (s : State) (rows : List ModuleVersion) → Tidy s → AscendingRows rows → length rows ≤ 256 → Tidy (with_rows s rows)
with_rows_tidy s rows t a h = record { rows_ascend = a; exclusions_ascend = t.exclusions_ascend; few_rows = h; few_exclusions = t.few_exclusions }

unless_tidy : (test : Bool) (c : Cause) (s new : State) → Tidy s → (test ≡ false → Tidy new) → Tidy (unless test c s new).state
unless_tidy true c s new t h = t
unless_tidy false c s new t h = h refl

raised_tidy : (s : State) (x : ModuleVersion) (o : Option ModuleVersion) → row_of x.path s.rows ≡ o → Tidy s → Tidy (raised s x o).state
raised_tidy s x (Some y) e t =
    unless_tidy (is_le (version_order x.version y.version)) nothing_to_change s (with_rows s (with_row x s.rows)) t
    (λ f. let (h, p) = lookup_there path_of path_order paths x.path s.rows y e in
    with_rows_tidy s (with_row x s.rows) t (with_row_ascending x s.rows t.rows_ascend)
    (omega (arith, entered_old path_of path_order paths higher x s.rows t.rows_ascend (y, h, p), t.few_rows)))
raised_tidy s x None e t =
    unless_tidy (leb 256 (length s.rows)) table_full s (with_rows s (with_row x s.rows)) t
    (λ f. with_rows_tidy s (with_row x s.rows) t (with_row_ascending x s.rows t.rows_ascend) (omega (arith, entered_most path_of path_order higher x s.rows, leb-false 256 (length s.rows) f)))

dropped_tidy : (s : State) (p : Bytes) (o : Option ModuleVersion) → Tidy s → Tidy (dropped s p o).state
dropped_tidy s p (Some y) t =
    with_rows_tidy s (without_row p s.rows) t (removed_ascending path_of path_order paths p s.rows t.rows_ascend)
    (omega (arith, removed_most path_of path_order p s.rows, t.few_rows))
dropped_tidy s p None t = t

excluded_tidy : (s : State) (x : ModuleVersion) → Tidy s → Tidy (excluded s x).state
excluded_tidy s x t = go (has s.exclusions x)
  where
    more : Outcome
    more = unless (leb 32 (length s.exclusions)) table_full s (with_exclusions s (with_exclusion x s.exclusions))

    go : (b : Bool) → Tidy (cond b (refuses s (refusal_for nothing_to_change)) more).state
    go true = t
    go false =
        unless_tidy (leb 32 (length s.exclusions)) table_full s (with_exclusions s (with_exclusion x s.exclusions)) t
        (λ f. record {
          rows_ascend = t.rows_ascend;
          exclusions_ascend = entered_keep_ascending own module_order order.module_versions x s.exclusions t.exclusions_ascend;
          few_rows = t.few_rows;
          few_exclusions = omega (arith, entered_most own module_order keep x s.exclusions, leb-false 32 (length s.exclusions) f);
        })

long_tidy : (n : Lent) (s : State) (o : Outcome) → Tidy s → Tidy o.state → Tidy (if_long_enough n s o).state
long_tidy n s o t h = go (long_enough n)
  where
    go : (b : Bool) → Tidy (cond b o (record { reply = refused (refusal_for slice_too_short); state = s; slices = holding n [] [] })).state
    go true = h
    go false = t

module _ (m : Meaning) (s : State) (t : Tidy s) where
  lowering_tidy : (p v : Bytes) (n : Lent) → Tidy (lowers_by m s n (ceilings_at m s p v)).state
  lowering_tidy p v n = go (lower_walk m s cs).end refl
    where
      cs : List ModuleVersion
      cs = ceilings_at m s p v

      go : (e : End) → (lower_walk m s cs).end ≡ e → Tidy (if_done e (with_rows s (kept_rows (view m s) cs)) s)
      go done ok =
          let k = kept m s p v ok in
          let few = distinct_length (kept_rows (view m s) cs) (module_versions (lower_walk m s cs).sheet) (ascending_distinct path_of path_order paths (kept_rows (view m s) cs) k.ascending) (λ x h. start_on m s cs ok x (offered_offers (view m s).layer cs x (k.allowed x h).0)) in
          with_rows_tidy s (kept_rows (view m s) cs) t k.ascending (omega (arith, few, length_module_versions (lower_walk m s cs).sheet, few_rows m s cs ok))
      go (stopped k f) ok = t
      go no_room ok = t

  lowers_tidy : (p v : Bytes) (n : Lent) → Tidy (lowers m s p v n).state
  lowers_tidy p v n = by_list (list_walk m s).end
    where
      chosen : Bool → Outcome
      chosen b = cond b (lowers_by m s n (ceilings_at m s p v)) (lowers_nothing m s n)

      by_test : (b : Bool) → Tidy (chosen b).state
      by_test true = lowering_tidy p v n
      by_test false = t

      by_list : (e : End) → Tidy (if_done e (chosen (can_lower p v (old_list m s))) (lists m s n)).state
      by_list done = by_test (can_lower p v (old_list m s))
      by_list (stopped k f) = t
      by_list no_room = t

  does_tidy : (c : Call) → InBounds c → Tidy (does m s c).state
  unfolding does
  does_tidy (load (manifest r)) (few, fewer) = record {
    rows_ascend = table_ascending r.requires;
    exclusions_ascend = joined_ascending own module_order order.module_versions [] r.excludes tt;
    few_rows = omega (arith, few, entered_all_most path_of path_order higher [] r.requires);
    few_exclusions = omega (arith, fewer, entered_all_most own module_order keep [] r.excludes);
  }
  does_tidy (load (unread c k)) b = t
  does_tidy (raise x) b = raised_tidy s x (row_of x.path s.rows) refl t
  does_tidy (drop p) b = dropped_tidy s p (row_of p s.rows) t
  does_tidy (exclude x) b = excluded_tidy s x t
  does_tidy (lower p v n) b = long_tidy n s (lowers m s p v n) t (lowers_tidy p v n)
  does_tidy (list n) b = long_tidy n s (lists m s n) t t

after_tidy : (m : Meaning) (s : State) (calls : List Call) → Tidy s → AllByRecursion InBounds calls → Tidy (after m s calls)
after_tidy m s [] t b = t
after_tidy m s (c ∷ cs) t b = after_tidy m (does m s c).state cs (does_tidy m s t c b.0) b.1

pub tidy_right : TidyRight
tidy_right m calls b = after_tidy m fresh calls (record { rows_ascend = tt; exclusions_ascend = tt; few_rows = omega arith; few_exclusions = omega arith }) b
