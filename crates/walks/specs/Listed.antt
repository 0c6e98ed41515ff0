-- What a list replies and leaves in its two slices, for what a walk sees and from any rows; the code's answer and slices, told as those of the
-- rules; and that the walk and the list of a project are a case of these. Assumes nothing.
use Rattle.std.specs.Prelude.{◌≡◌, cond, List, [], map, length, Ok, Err, Result}
use Rattle.rules.specs.Causes.{slice_too_short}
use Rattle.rules.specs.Names.{ModuleVersion}
use Rattle.rules.specs.Sources.{Meaning, included}
use Rattle.rules.specs.Projects.{State, View, view}
use Rattle.rules.specs.Walks.{Walked, list_walk}
use Rattle.rules.specs.Lists.{list_of}
use Rattle.rules.specs.Slices.{Lent, long_enough, Slices, holding}
use Rattle.rules.specs.Calls.{Reply, counted, refused, refusal_for, replied, if_done, if_long_enough, lists}
use Rattle.causes.specs.Told.{refusal_of}
use Rattle.causes.specs.declared.refusal.Refusal.{Refusal}
use Rattle.modules.specs.Rows.{row_names}
use Rattle.modules.specs.declared.rows.Row.{Row}
use Rattle.walks.specs.declared.counts.Counts.{Counts}
use Rattle.walks.specs.declared.place.Place.{Place}
use Rattle.walks.specs.Places.{place_of}
use Rattle.walks.specs.Views.{bare, walk_from}

-- ---- the code's answer and slices

abbrev pub reply_of : Result Counts Refusal → Reply
reply_of (Ok c) = counted c.places c.rows
reply_of (Err r) = refused (refusal_of r)

abbrev pub slices_of : List Place → List Row → Slices
slices_of sheet list = record { sheet = map place_of sheet; list = map row_names list }

abbrev pub lent : List Place → List Row → Lent
lent sheet list = record { sheet = length sheet; list = length list }

-- ---- what the rules say

pub record Listed : Type 0 where
  pub reply : Reply
  pub slices : Slices

module _ (w : View) where
  -- at the end of a walk
  abbrev pub listed : Lent → Walked → Listed
  listed n v = record {
    reply = replied v.end (length v.sheet) (length (list_of (bare w.main) v.sheet));
    slices = holding n v.sheet (if_done v.end (list_of (bare w.main) v.sheet) []);
  }

  abbrev pub lists_from : List ModuleVersion → Lent → Listed
  lists_from start n = cond (long_enough n) (listed n (walk_from w start)) (record { reply = refused (refusal_for slice_too_short); slices = holding n [] [] })

-- THE WALK and THE LIST of a project are those that see the exclude layer of its state, and start from its rows but the exclusions.
abbrev pub WalkRight : Type 0
WalkRight = (m : Meaning) (s : State) → walk_from (view m s) (included s.exclusions s.rows) ≡ list_walk m s

abbrev pub ListRight : Type 0
ListRight = (m : Meaning) (s : State) (n : Lent)
    → ◌≡◌ {A = Listed} (lists_from (view m s) (included s.exclusions s.rows) n)
    (record { reply = (if_long_enough n s (lists m s n)).reply; slices = (if_long_enough n s (lists m s n)).slices })
