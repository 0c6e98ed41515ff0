-- What the calls that change the tables do. Assumes nothing.
use Rattle.std.proofs.Common.{◌≡◌, ℕ, ◌<◌, ◌≤◌, Bool, true, false, cond, leb, ◌⊎◌, ◌↔◌, List, [], length, Some, None, Option, sym, refl, ap, ◌∙◌, subst, inr, ⊎_elim, true≢false, arith}
use Rattle.std.specs.Ordering.{is_le, is_lt}
use Rattle.std.proofs.lemmas.Bool.{leb-true, leb-false}
use Rattle.rules.specs.Orders.{Bytes}
use Rattle.rules.specs.Paths.{path_order}
use Rattle.rules.specs.Versions.{version_order}
use Rattle.rules.specs.Names.{ModuleVersion, module_order, Upto, has, Stands, ◌∈◌}
use Rattle.rules.specs.Tables.{met}
use Rattle.rules.specs.Rows.{own, path_of, higher, AscendingRows, row_of, with_row, AscendingExclusions, with_exclusion, NoRow}
use Rattle.rules.specs.Causes.{number, table_full, nothing_to_change}
use Rattle.rules.specs.Sources.{Meaning}
use Rattle.rules.specs.Projects.{State, with_rows, with_exclusions, OnlyRowsChange, OnlyExclusionsChange}
use Rattle.rules.specs.Calls.{Reply, accepted, counted, refused, Outcome, refusal_for, refuses, unless, raised, dropped, excluded, does}
use Rattle.rules.specs.Runs.{after, fresh}
use Rattle.rules.specs.Changes.{Accepted, RefusedWith, Changes, ChangesRight}
use Rattle.rules.proofs.Order.{upto_before, before_from_less, paths, versions, module_versions}
use Rattle.rules.proofs.Members.{member_from_has, no_member_from_has}
use Rattle.rules.proofs.Tables.{lookup_there, lookup_misses, entered_members, entered_told, entered_all_told, removed_members}
use Rattle.rules.proofs.Rows.{one_a_path, table_was, table_stands}
use Rattle.rules.proofs.Tidy.{tidy_right}

-- what is entered above all that stands there takes the place of its path's row
module _ (x : ModuleVersion) (rows : List ModuleVersion) (a : AscendingRows rows) (new : Stands x rows → ⊥) where
  becomes_itself : met path_of path_order higher x (row_of x.path rows) ≡ x
  becomes_itself = go (row_of x.path rows) refl
    where
      go : (r : Option ModuleVersion) → row_of x.path rows ≡ r → met path_of path_order higher x r ≡ x
      go None e = refl
      go (Some y) e =
          let (h, p) = lookup_there path_of path_order paths x.path rows y e in
          above (is_lt (version_order x.version y.version)) refl (λ u. new (y, h, sym p, u))
        where
          above : (b : Bool) → is_lt (version_order x.version y.version) ≡ b → (Upto x.version y.version → ⊥) → cond b y x ≡ x
          above true t other = absurd (other (upto_before versions x.version y.version (before_from_less versions x.version y.version t)))
          above false t other = refl

  with_row_members : (y : ModuleVersion) → y ∈ with_row x rows ↔ ((y ≡ x) ⊎ ((y ∈ rows) × (y.path ≡ x.path → ⊥)))
  with_row_members y =
      subst (λ z. (y ∈ with_row x rows) ↔ ((y ≡ z) ⊎ ((y ∈ rows) × (y.path ≡ x.path → ⊥)))) becomes_itself (entered_members path_of path_order paths higher x rows a y)

-- causes are told apart by their numbers
abbrev told_by : Reply → ℕ
told_by accepted = 0
told_by (counted places rows) = 0
told_by (refused r) = number r.cause

-- a raise

-- the three ways that it goes
pub data Raising (s : State) (x : ModuleVersion) (o : Outcome) : Type 0 where
  is_high : Stands x s.rows → o ≡ refuses s (refusal_for nothing_to_change) → Raising s x o
  is_full : NoRow x.path s.rows → 256 ≤ length s.rows → o ≡ refuses s (refusal_for table_full) → Raising s x o
  is_raised : (Stands x s.rows → ⊥) → (NoRow x.path s.rows → length s.rows < 256) → Accepted o → o.state ≡ with_rows s (with_row x s.rows) → Raising s x o

no_row_stands : (x : ModuleVersion) (rows : List ModuleVersion) → NoRow x.path rows → Stands x rows → ⊥
no_row_stands x rows none (y, h, p, u) = none y h (sym p)

raising : (s : State) (x : ModuleVersion) → AscendingRows s.rows → (o : Option ModuleVersion) → row_of x.path s.rows ≡ o → Raising s x (raised s x o)
raising s x a (Some y) e = go (is_le (version_order x.version y.version)) refl
  where
    there : (y ∈ s.rows) × (y.path ≡ x.path)
    there = lookup_there path_of path_order paths x.path s.rows y e

    go : (b : Bool) → is_le (version_order x.version y.version) ≡ b → Raising s x (unless b nothing_to_change s (with_rows s (with_row x s.rows)))
    go true t = is_high (y, there.0, sym there.1, t) refl
    go false t =
        is_raised
        (λ (z, h, p, u). let same = one_a_path s.rows a z y h there.0 (sym p ∙ sym there.1) in
        true≢false (sym u ∙ ap (λ w. is_le (version_order x.version w.version)) same ∙ t))
        (λ none. absurd (none y there.0 there.1))
        refl refl
raising s x a None e = go (leb 256 (length s.rows)) refl
  where
    none : NoRow x.path s.rows
    none = lookup_misses path_of path_order paths x.path s.rows a e

    go : (b : Bool) → leb 256 (length s.rows) ≡ b → Raising s x (unless b table_full s (with_rows s (with_row x s.rows)))
    go true t = is_full none (leb-true 256 (length s.rows) t) refl
    go false t = is_raised (no_row_stands x s.rows none) (λ n. leb-false 256 (length s.rows) t) refl refl

module _ (s : State) (x : ModuleVersion) (a : AscendingRows s.rows) (o : Outcome) where
  raise_rows : Raising s x o → Accepted o → (y : ModuleVersion) → y ∈ o.state.rows ↔ ((y ≡ x) ⊎ ((y ∈ s.rows) × (y.path ≡ x.path → ⊥)))
  raise_rows (is_high st e) q y = let r = sym q ∙ ap (λ w. w.reply) e in let z : ◌≡◌ {A = ℕ} 0 1 = cc in absurd (omega arith)
  raise_rows (is_full none l e) q y = let r = sym q ∙ ap (λ w. w.reply) e in let z : ◌≡◌ {A = ℕ} 0 1 = cc in absurd (omega arith)
  raise_rows (is_raised new room ok e) q y = rw (ap (λ w. w.rows) e) (with_row_members x s.rows a new y)

  raise_high : Raising s x o → RefusedWith nothing_to_change o ↔ Stands x s.rows
  raise_high (is_high st e) = (λ q. st, λ st. ap (λ w. w.reply) e)
  raise_high (is_full none l e) = (λ q. let n : ◌≡◌ {A = ℕ} 14 13 = ap told_by (sym q ∙ ap (λ w. w.reply) e) in absurd (omega arith), λ st. absurd (no_row_stands x s.rows none st))
  raise_high (is_raised new room ok e) = (λ q. let r = sym q ∙ ok in let z : ◌≡◌ {A = ℕ} 0 1 = cc in absurd (omega arith), λ st. absurd (new st))

  raise_full : Raising s x o → RefusedWith table_full o ↔ (NoRow x.path s.rows × (256 ≤ length s.rows))
  raise_full (is_high st e) = (λ q. let n : ◌≡◌ {A = ℕ} 13 14 = ap told_by (sym q ∙ ap (λ w. w.reply) e) in absurd (omega arith), λ (none, l). absurd (no_row_stands x s.rows none st))
  raise_full (is_full none l e) = (λ q. (none, l), λ h. ap (λ w. w.reply) e)
  raise_full (is_raised new room ok e) = (λ q. let r = sym q ∙ ok in let z : ◌≡◌ {A = ℕ} 0 1 = cc in absurd (omega arith), λ (none, l). absurd (omega (arith, room none)))

  raise_rest : Raising s x o → OnlyRowsChange s o.state
  raise_rest (is_high st e) = (ap (λ w. w.state.main) e, ap (λ w. w.state.exclusions) e)
  raise_rest (is_full none l e) = (ap (λ w. w.state.main) e, ap (λ w. w.state.exclusions) e)
  raise_rest (is_raised new room ok e) = (ap (λ w. w.main) e, ap (λ w. w.exclusions) e)

  raise_accepted : Raising s x o → Accepted o ↔ ((Stands x s.rows → ⊥) × (NoRow x.path s.rows → length s.rows < 256))
  raise_accepted (is_high st e) = (λ q. let r = sym q ∙ ap (λ w. w.reply) e in let z : ◌≡◌ {A = ℕ} 0 1 = cc in absurd (omega arith), λ (new, room). absurd (new st))
  raise_accepted (is_full none l e) = (λ q. let r = sym q ∙ ap (λ w. w.reply) e in let z : ◌≡◌ {A = ℕ} 0 1 = cc in absurd (omega arith), λ (new, room). absurd (omega (arith, room none)))
  raise_accepted (is_raised new room ok e) = (λ q. (new, room), λ h. ok)

-- a drop

drop_rows : (s : State) (p : Bytes) → AscendingRows s.rows → (o : Option ModuleVersion) → Accepted (dropped s p o)
    → (y : ModuleVersion) → y ∈ (dropped s p o).state.rows ↔ ((y ∈ s.rows) × (y.path ≡ p → ⊥))
drop_rows s p a (Some w) q y = removed_members path_of path_order paths p s.rows a y
drop_rows s p a None q y = let z : ◌≡◌ {A = ℕ} 0 1 = cc in absurd (omega arith)

drop_none : (s : State) (p : Bytes) → AscendingRows s.rows → (o : Option ModuleVersion) → row_of p s.rows ≡ o
    → RefusedWith nothing_to_change (dropped s p o) ↔ NoRow p s.rows
drop_none s p a (Some y) e =
    let (h, q) = lookup_there path_of path_order paths p s.rows y e in
    (λ r. let z : ◌≡◌ {A = ℕ} 0 1 = cc in absurd (omega arith), λ none. absurd (none y h q))
drop_none s p a None e = (λ r. lookup_misses path_of path_order paths p s.rows a e, λ none. refl)

drop_rest : (s : State) (p : Bytes) (o : Option ModuleVersion) → OnlyRowsChange s (dropped s p o).state
drop_rest s p (Some y) = (refl, refl)
drop_rest s p None = (refl, refl)

drop_accepted : (s : State) (p : Bytes) → AscendingRows s.rows → (o : Option ModuleVersion) → row_of p s.rows ≡ o → Accepted (dropped s p o) ↔ (NoRow p s.rows → ⊥)
drop_accepted s p a (Some y) e = let (h, q) = lookup_there path_of path_order paths p s.rows y e in (λ r none. none y h q, λ some. refl)
drop_accepted s p a None e = (λ r. let z : ◌≡◌ {A = ℕ} 0 1 = cc in absurd (omega arith), λ some. absurd (some (lookup_misses path_of path_order paths p s.rows a e)))

-- an exclude

pub data Excluding (s : State) (x : ModuleVersion) (o : Outcome) : Type 0 where
  is_there : x ∈ s.exclusions → o ≡ refuses s (refusal_for nothing_to_change) → Excluding s x o
  is_full : (x ∈ s.exclusions → ⊥) → 32 ≤ length s.exclusions → o ≡ refuses s (refusal_for table_full) → Excluding s x o
  is_put : (x ∈ s.exclusions → ⊥) → length s.exclusions < 32 → Accepted o → o.state ≡ with_exclusions s (with_exclusion x s.exclusions) → Excluding s x o

leaving_out : (s : State) (x : ModuleVersion) → Excluding s x (excluded s x)
leaving_out s x = go (has s.exclusions x) refl
  where
    by_room : (x ∈ s.exclusions → ⊥) → (b : Bool) → leb 32 (length s.exclusions) ≡ b → Excluding s x (unless b table_full s (with_exclusions s (with_exclusion x s.exclusions)))
    by_room new true t = is_full new (leb-true 32 (length s.exclusions) t) refl
    by_room new false t = is_put new (leb-false 32 (length s.exclusions) t) refl refl

    go : (b : Bool) → has s.exclusions x ≡ b
        → Excluding s x (cond b (refuses s (refusal_for nothing_to_change)) (unless (leb 32 (length s.exclusions)) table_full s (with_exclusions s (with_exclusion x s.exclusions))))
    go true t = is_there (member_from_has s.exclusions x t) refl
    go false t = by_room (no_member_from_has s.exclusions x t) (leb 32 (length s.exclusions)) refl

module _ (s : State) (x : ModuleVersion) (o : Outcome) where
  exclude_put : AscendingExclusions s.exclusions → Excluding s x o → Accepted o → (y : ModuleVersion) → y ∈ o.state.exclusions ↔ ((y ≡ x) ⊎ (y ∈ s.exclusions))
  exclude_put a (is_there h e) q y = let r = sym q ∙ ap (λ w. w.reply) e in let z : ◌≡◌ {A = ℕ} 0 1 = cc in absurd (omega arith)
  exclude_put a (is_full n l e) q y = let r = sym q ∙ ap (λ w. w.reply) e in let z : ◌≡◌ {A = ℕ} 0 1 = cc in absurd (omega arith)
  exclude_put a (is_put n l ok e) q y = rw (ap (λ w. w.exclusions) e) (entered_told own module_order module_versions (λ v w e. e) x s.exclusions a y)

  exclude_there : Excluding s x o → RefusedWith nothing_to_change o ↔ x ∈ s.exclusions
  exclude_there (is_there h e) = (λ q. h, λ k. ap (λ w. w.reply) e)
  exclude_there (is_full n l e) = (λ q. let n : ◌≡◌ {A = ℕ} 14 13 = ap told_by (sym q ∙ ap (λ w. w.reply) e) in absurd (omega arith), λ k. absurd (n k))
  exclude_there (is_put n l ok e) = (λ q. let r = sym q ∙ ok in let z : ◌≡◌ {A = ℕ} 0 1 = cc in absurd (omega arith), λ k. absurd (n k))

  exclude_full : Excluding s x o → RefusedWith table_full o ↔ ((x ∈ s.exclusions → ⊥) × (32 ≤ length s.exclusions))
  exclude_full (is_there h e) = (λ q. let n : ◌≡◌ {A = ℕ} 13 14 = ap told_by (sym q ∙ ap (λ w. w.reply) e) in absurd (omega arith), λ (n, l). absurd (n h))
  exclude_full (is_full n l e) = (λ q. (n, l), λ h. ap (λ w. w.reply) e)
  exclude_full (is_put n l ok e) = (λ q. let r = sym q ∙ ok in let z : ◌≡◌ {A = ℕ} 0 1 = cc in absurd (omega arith), λ (k, j). absurd (omega arith))

  exclude_rest : Excluding s x o → OnlyExclusionsChange s o.state
  exclude_rest (is_there h e) = (ap (λ w. w.state.main) e, ap (λ w. w.state.rows) e)
  exclude_rest (is_full n l e) = (ap (λ w. w.state.main) e, ap (λ w. w.state.rows) e)
  exclude_rest (is_put n l ok e) = (ap (λ w. w.main) e, ap (λ w. w.rows) e)

  exclude_accepted : Excluding s x o → Accepted o ↔ ((x ∈ s.exclusions → ⊥) × (length s.exclusions < 32))
  exclude_accepted (is_there h e) = (λ q. let r = sym q ∙ ap (λ w. w.reply) e in let z : ◌≡◌ {A = ℕ} 0 1 = cc in absurd (omega arith), λ (n, l). absurd (n h))
  exclude_accepted (is_full n l e) = (λ q. let r = sym q ∙ ap (λ w. w.reply) e in let z : ◌≡◌ {A = ℕ} 0 1 = cc in absurd (omega arith), λ (k, j). absurd (omega arith))
  exclude_accepted (is_put n l ok e) = (λ q. (n, l), λ h. ok)

changes : (m : Meaning) (s : State) → AscendingRows s.rows → AscendingExclusions s.exclusions → Changes m s
unfolding does
changes m s a b = record {
  load_accepted = λ t. refl;
  load_main = λ t. refl;
  load_rows = λ t y h. table_was t.requires y h;
  load_highest = λ t. table_stands t.requires;
  load_exclusions = λ t y. let (to, from) = entered_all_told own module_order module_versions (λ v w e. e) [] t.excludes tt y in (λ h. ⊎_elim (λ k. absurd k) (λ k. k) (to h), λ h. from (inr h));
  raise_rows = λ x. raise_rows s x a (raised s x (row_of x.path s.rows)) (raising s x a (row_of x.path s.rows) refl);
  raise_not_higher = λ x. raise_high s x a (raised s x (row_of x.path s.rows)) (raising s x a (row_of x.path s.rows) refl);
  raise_table_full = λ x. raise_full s x a (raised s x (row_of x.path s.rows)) (raising s x a (row_of x.path s.rows) refl);
  load_unread = λ c line. refl;
  raise_rest = λ x. raise_rest s x a (raised s x (row_of x.path s.rows)) (raising s x a (row_of x.path s.rows) refl);
  raise_accepted = λ x. raise_accepted s x a (raised s x (row_of x.path s.rows)) (raising s x a (row_of x.path s.rows) refl);
  drop_rows = λ p. drop_rows s p a (row_of p s.rows);
  drop_no_row = λ p. drop_none s p a (row_of p s.rows) refl;
  drop_rest = λ p. drop_rest s p (row_of p s.rows);
  drop_accepted = λ p. drop_accepted s p a (row_of p s.rows) refl;
  exclude_exclusions = λ x. exclude_put s x (excluded s x) b (leaving_out s x);
  exclude_present = λ x. exclude_there s x (excluded s x) (leaving_out s x);
  exclude_table_full = λ x. exclude_full s x (excluded s x) (leaving_out s x);
  exclude_rest = λ x. exclude_rest s x (excluded s x) (leaving_out s x);
  exclude_accepted = λ x. exclude_accepted s x (excluded s x) (leaving_out s x);
}

pub changes_right : ChangesRight
changes_right m calls b = let t = tidy_right m calls b in changes m (after m fresh calls) t.rows_ascend t.exclusions_ascend
