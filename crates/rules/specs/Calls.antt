-- The six calls of a project: what each replies, and the state and the slices that it leaves, from the meaning of the sources and the state
-- before. Load takes over a manifest that was read: its main path, of each path the highest row, each exclusion once. Raise sets the one row of
-- its path, or adds it. Drop removes a row. Exclude adds an exclusion. List walks and gives the list. Lower makes the kept rows the rows.
-- A call that is refused leaves the state as it was. Assumes nothing.
use Rattle.std.specs.Prelude.{ℕ, Bool, cond, List, [], length, Some, None, Option, nat_le}
use Rattle.std.specs.Ordering.{is_le}
use Rattle.rules.specs.Orders.{Bytes}
use Rattle.rules.specs.Versions.{version_order}
use Rattle.rules.specs.Names.{ModuleVersion, has}
use Rattle.rules.specs.Rows.{row_of, with_row, without_row, table, with_exclusion, exclusion_table}
use Rattle.rules.specs.Causes.{Cause, slice_too_short, too_many_module_versions, table_full, nothing_to_change, Fault, Refusal}
use Rattle.rules.specs.Manifests.{Reading, manifest, unread}
use Rattle.rules.specs.Sources.{Meaning}
use Rattle.rules.specs.Projects.{State, with_exclusions, view, with_rows}
use Rattle.rules.specs.Walks.{End, done, stopped, no_room, list_walk}
use Rattle.rules.specs.Lowers.{can_lower, lower_walk, kept_rows, old_list, ceilings_at}
use Rattle.rules.specs.Slices.{Lent, long_enough, Slices, holding}

pub data Call : Type 0 where
  load : Reading → Call
  raise : ModuleVersion → Call
  drop : Bytes → Call
  exclude : ModuleVersion → Call
  lower : Bytes → Bytes → Lent → Call
  list : Lent → Call

pub data Reply : Type 0 where
  accepted : Reply
  -- accepted, with the number of places on the sheet and of rows on the list
  counted : ℕ → ℕ → Reply
  refused : Refusal → Reply

pub record Outcome : Type 0 where
  pub reply : Reply
  pub state : State
  pub slices : Slices

-- ---- refusals

-- where the cause says all
abbrev pub refusal_for : Cause → Refusal
refusal_for c = record { cause = c; place = 0; depth = 0; sheet_place = 0 }

-- a fault that a place of the sheet brought
abbrev pub refusal_at : ℕ → Fault → Refusal
refusal_at k f = record { cause = f.cause; place = f.place; depth = f.depth; sheet_place = k }

-- ---- load, raise, drop and exclude: they are lent no slices

abbrev pub accepts : State → Outcome
accepts s = record { reply = accepted; state = s; slices = record { sheet = []; list = [] } }

abbrev pub refuses : State → Refusal → Outcome
refuses s r = record { reply = refused r; state = s; slices = record { sheet = []; list = [] } }

-- refused if the test says so, and else the new state
abbrev pub unless : Bool → Cause → State → State → Outcome
unless test c s new = cond test (refuses s (refusal_for c)) (accepts new)

abbrev pub loaded : State → Reading → Outcome
loaded s (manifest t) = accepts (record { main = t.main; rows = table t.requires; exclusions = exclusion_table t.excludes })
loaded s (unread c k) = refuses s (record { cause = c; place = k; depth = 0; sheet_place = 0 })

-- a raise of the row x, where its path has a row or none
abbrev pub raised : State → ModuleVersion → Option ModuleVersion → Outcome
raised s x (Some y) = unless (is_le (version_order x.version y.version)) nothing_to_change s (with_rows s (with_row x s.rows))
raised s x None = unless (nat_le 256 (length s.rows)) table_full s (with_rows s (with_row x s.rows))

-- a drop of a path, where it has a row or none
abbrev pub dropped : State → Bytes → Option ModuleVersion → Outcome
dropped s p (Some y) = accepts (with_rows s (without_row p s.rows))
dropped s p None = refuses s (refusal_for nothing_to_change)

abbrev pub excluded : State → ModuleVersion → Outcome
excluded s x =
    cond (has s.exclusions x) (refuses s (refusal_for nothing_to_change))
    (unless (nat_le 32 (length s.exclusions)) table_full s (with_exclusions s (with_exclusion x s.exclusions)))

-- ---- list and lower

-- what is replied at a walk's end
abbrev pub replied : End → ℕ → ℕ → Reply
replied done places rows = counted places rows
replied (stopped k f) places rows = refused (refusal_at k f)
replied no_room places rows = refused (refusal_for too_many_module_versions)

abbrev pub if_done : {A : Type 0} → End → A → A → A
if_done done a b = a
if_done (stopped k f) a b = b
if_done no_room a b = b

-- refused, with both slices blank, if one of them is too short
abbrev pub if_long_enough : Lent → State → Outcome → Outcome
if_long_enough n s o = cond (long_enough n) o (record { reply = refused (refusal_for slice_too_short); state = s; slices = holding n [] [] })

module _ (m : Meaning) (s : State) where
  -- a list; refused, the list slice is blank, and the sheet is as far as it was walked
  abbrev pub lists : Lent → Outcome
  lists n = record {
    reply = replied (list_walk m s).end (length (list_walk m s).sheet) (length (old_list m s));
    state = s;
    slices = holding n (list_walk m s).sheet (if_done (list_walk m s).end (old_list m s) []);
  }

  -- the list is given, but there is nothing to lower
  abbrev pub lowers_nothing : Lent → Outcome
  lowers_nothing n = record { reply = refused (refusal_for nothing_to_change); state = s; slices = (lists n).slices }

  -- a lower under ceilings, by its own walk; the list slice holds the list that it started from
  abbrev pub lowers_by : Lent → List ModuleVersion → Outcome
  lowers_by n cs = record {
    reply = replied (lower_walk m s cs).end (length (lower_walk m s cs).sheet) (length (old_list m s));
    state = if_done (lower_walk m s cs).end (with_rows s (kept_rows (view m s) cs)) s;
    slices = holding n (lower_walk m s cs).sheet (old_list m s);
  }

  -- a lower of p to v: list's refusals come first
  abbrev pub lowers : Bytes → Bytes → Lent → Outcome
  lowers p v n = if_done (list_walk m s).end (cond (can_lower p v (old_list m s)) (lowers_by n (ceilings_at m s p v)) (lowers_nothing n)) (lists n)

  -- what a call does
  unfoldable pub does : Call → Outcome
  does (load r) = loaded s r
  does (raise x) = raised s x (row_of x.path s.rows)
  does (drop p) = dropped s p (row_of p s.rows)
  does (exclude x) = excluded s x
  does (lower p v n) = if_long_enough n s (lowers p v n)
  does (list n) = if_long_enough n s (lists n)
