-- What a lower replies, keeps and leaves in its two slices, for what a walk sees and from any rows; and that the lower of a project is a case of it.
-- Assumes nothing.
use Rattle.std.specs.Prelude.{◌≡◌, ℕ, ◌+◌, Bool, cond, ◌&&◌, List, map, length, take, Some, None, Ok, Err, Option, Result}
use Rattle.std.specs.Ordering.{is_lt}
use Rattle.rules.specs.Orders.{Bytes}
use Rattle.rules.specs.Versions.{version_order}
use Rattle.rules.specs.Names.{ModuleVersion, same_path}
use Rattle.rules.specs.Causes.{nothing_to_change}
use Rattle.rules.specs.Sources.{Meaning, included}
use Rattle.rules.specs.Projects.{State, View, view, with_rows}
use Rattle.rules.specs.Walks as R
use Rattle.rules.specs.Walks.{Walked, walk, first_sheet}
use Rattle.rules.specs.Lists.{list_of}
use Rattle.rules.specs.Lowers.{some, can_lower, ceiling_of, ceilings, offers_written, lower_ask, kept_rows}
use Rattle.rules.specs.Slices.{Lent, long_enough, Slices, holding, blank_place, filled}
use Rattle.rules.specs.Calls.{Reply, counted, refused, refusal_for, replied, if_done, Outcome, if_long_enough, lowers}
use Rattle.causes.specs.Told.{refusal_of}
use Rattle.causes.specs.declared.refusal.Refusal.{Refusal}
use Rattle.modules.specs.Tables.{requirement_names}
use Rattle.walks.specs.declared.place.Place.{Place}
use Rattle.walks.specs.Places.{place_of}
use Rattle.walks.specs.Views.{bare, walk_from}
use Rattle.walks.specs.Listed.{lists_from}
use Rattle.lowers.specs.declared.lowered.Lowered.{Lowered}

-- ---- the code's answer

abbrev pub reply_of : Result Lowered Refusal → Reply
reply_of (Ok l) = counted l.counts.places l.counts.rows
reply_of (Err r) = refused (refusal_of r)

-- the rows that are kept, if it is accepted
abbrev pub kept_of : Result Lowered Refusal → Option (List ModuleVersion)
kept_of (Ok l) = Some (requirement_names l.kept)
kept_of (Err r) = None

-- what a lower from given rows tells, and what it leaves in the slice of the sheet
pub record LowerTold : Type 0 where
  pub reply : Reply
  -- the rows that are kept, if it is accepted
  pub kept : Option (List ModuleVersion)
  pub sheet : List R.Place

abbrev pub told_of : Result Lowered Refusal → List Place → LowerTold
told_of r after = record { reply = reply_of r; kept = kept_of r; sheet = map place_of after }

-- one of the rows is on the path p, above the version v
abbrev pub lowerable : Bytes → Bytes → List ModuleVersion → Bool
lowerable p v = some (λ x. same_path x p && is_lt (version_order v x.version))

-- ---- what the rules say

pub record Lowering : Type 0 where
  pub reply : Reply
  -- the rows that are kept, if it is accepted
  pub kept : Option (List ModuleVersion)
  pub slices : Slices

module _ (w : View) where
  -- lower's walk under ceilings
  unfoldable pub lower_walk_from : List ModuleVersion → Walked
  lower_walk_from cs = offers_written w.layer (walk (lower_ask w cs) 255 1) cs (first_sheet (bare w.main))

  -- under ceilings, in a slice of so many places; the list that they are made from has the main row besides
  abbrev pub told_under : ℕ → List ModuleVersion → LowerTold
  told_under places cs = record {
    reply = replied (lower_walk_from cs).end (length (lower_walk_from cs).sheet) (length cs + 1);
    kept = if_done (lower_walk_from cs).end (Some (kept_rows w cs)) None;
    sheet = filled blank_place places (take 256 (lower_walk_from cs).sheet);
  }

  -- of a path to a version, from the rows of a list behind its main row; the slice held `before`
  abbrev pub told_from : Bytes → Bytes → List ModuleVersion → List R.Place → LowerTold
  told_from p v rows before =
      cond (lowerable p v rows) (told_under (length before) (map (ceiling_of p v) rows)) (record { reply = refused (refusal_for nothing_to_change); kept = None; sheet = before })

  module _ (start : List ModuleVersion) where
    -- the list that it starts from
    abbrev pub old_from : List ModuleVersion
    old_from = list_of (bare w.main) (walk_from w start).sheet

    -- it ends as the list does, or with another refusal
    abbrev pub left_as_listed : Lent → Reply → Lowering
    left_as_listed n r = record { reply = r; kept = None; slices = (lists_from w start n).slices }

    -- under ceilings, by its own walk; the list slice holds the list that it started from
    abbrev pub lowers_under : Lent → List ModuleVersion → Lowering
    lowers_under n cs = record {
      reply = replied (lower_walk_from cs).end (length (lower_walk_from cs).sheet) (length old_from);
      kept = if_done (lower_walk_from cs).end (Some (kept_rows w cs)) None;
      slices = holding n (lower_walk_from cs).sheet old_from;
    }

    -- where the list is given
    abbrev pub lowers_listed : Bytes → Bytes → Lent → Lowering
    lowers_listed p v n = cond (can_lower p v old_from) (lowers_under n (ceilings p v old_from)) (left_as_listed n (refused (refusal_for nothing_to_change)))

    -- the lower of a path to a version: the list's refusals come first
    abbrev pub lowers_from : Bytes → Bytes → Lent → Lowering
    lowers_from p v n =
        cond (long_enough n) (if_done (walk_from w start).end (lowers_listed p v n) (left_as_listed n (lists_from w start n).reply))
        (left_as_listed n (lists_from w start n).reply)

-- THE LOWER of a project is the one that sees the exclude layer of its state, and starts from its rows but the exclusions; the kept rows become its
-- rows.
abbrev pub state_after : State → Option (List ModuleVersion) → State
state_after s None = s
state_after s (Some rows) = with_rows s rows

abbrev pub outcome_of : State → Lowering → Outcome
outcome_of s l = record { reply = l.reply; state = state_after s l.kept; slices = l.slices }

abbrev pub LowerStands : Type 0
LowerStands = (m : Meaning) (s : State) (p v : Bytes) (n : Lent)
    → if_long_enough n s (lowers m s p v n) ≡ outcome_of s (lowers_from (view m s) (included s.exclusions s.rows) p v n)
