-- The law over runs: at one call more, and of a whole run. Assumes nothing.
use Rattle.std.specs.Prelude.{◌≡◌, ℕ, ◌≤◌, List, [], ◌∷◌, ◌++◌, length, take}
use Rattle.std.specs.List.{AllByRecursion}
use Rattle.rules.specs.Sources.{Meaning}
use Rattle.rules.specs.Projects.{State}
use Rattle.rules.specs.Slices.{Slices}
use Rattle.rules.specs.Calls.{Call, load, raise, drop, exclude, lower, list, Reply, does}
use Rattle.rules.specs.Runs.{after, fresh, outcome, Right, Tidy, InBounds}
use Rattle.rules.specs.Changes.{Changes}

-- what a call leaves in the two slices that are lent beside it: list and lower write them, and no other call does
abbrev pub leaves : Meaning → State → Call → Slices → Slices
leaves m s (load r) before = before
leaves m s (raise x) before = before
leaves m s (drop p) before = before
leaves m s (exclude x) before = before
leaves m s (lower p v n) before = (does m s (lower p v n)).slices
leaves m s (list n) before = (does m s (list n)).slices

-- THE LAW after some calls, over a pile that means m: the promises hold there of every list and lower that is made next (Right), of the calls that
-- change tables (Changes), and of the tables themselves (Tidy).
pub record LawAt (m : Meaning) (calls : List Call) : Type 0 where
  pub right : Right m (after m fresh calls)
  pub changes : Changes m (after m fresh calls)
  pub tidy : Tidy (after m fresh calls)

-- One call more, c, on a project that is fresh but for some calls: its reply, the state and the slices after it are what the rules make of those calls
-- and of this one, and the promises of list and lower hold there; the whole law does where the loads among those calls are in bounds, as all that is
-- read is.
pub record GoesOn (m : Meaning) (calls : List Call) (c : Call) (reply : Reply) (state : State) (before slices : Slices) : Type 0 where
  pub replied : reply ≡ (outcome m calls c).reply
  pub changed : state ≡ after m fresh (calls ++ c ∷ [])
  pub written : slices ≡ leaves m (after m fresh calls) c before
  pub right : Right m (after m fresh calls)
  pub law : AllByRecursion InBounds calls → LawAt m calls

-- ---- a whole run

-- the replies to calls, one after another
abbrev pub replies : Meaning → State → List Call → List Reply
replies m s [] = []
replies m s (c ∷ cs) = (does m s c).reply ∷ replies m (does m s c).state cs

-- what the slices hold after them all
abbrev pub slices_after : Meaning → State → List Call → Slices → Slices
slices_after m s [] before = before
slices_after m s (c ∷ cs) before = slices_after m (does m s c).state cs (leaves m s c before)

-- A run of calls on a fresh project over a pile that means m: the state and the slices that it leaves are what the rules make of the calls; and the
-- law holds before the first call, and after each.
pub record RunsBy (m : Meaning) (calls : List Call) (state : State) (before slices : Slices) : Type 0 where
  pub changed : state ≡ after m fresh calls
  pub written : slices ≡ slices_after m fresh calls before
  pub law : (i : ℕ) → i ≤ length calls → LawAt m (take i calls)
