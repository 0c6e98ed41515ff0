-- The calls and replies of the code, told as those of the rules. Assumes nothing.
use Rattle.std.specs.Prelude.{◌≡◌, length, take, drop, Some, Option}
use mathlib.Core.List as L
use Rattle.std.specs.Option.{option_map}
use Rattle.rules.specs.Calls as R
use Rattle.rules.specs.Manifests.{reading}
use Rattle.rules.specs.Slices.{Lent}
use Rattle.names.specs.Paths.{path_bytes}
use Rattle.versions.specs.Values.{version_bytes}
use Rattle.modules.specs.Rows.{names_of}
use Rattle.causes.specs.Told.{refusal_of}
use Rattle.runs.specs.declared.calls.Call.{Call}
use Rattle.runs.specs.declared.calls.Call.TheVariants.{Load, Raise, Drop, Exclude, List}
use Rattle.runs.specs.declared.calls.ListingCall.{ListingCall}
use Rattle.runs.specs.declared.calls.ListingCall.TheVariants.{Any, Lower}
use Rattle.runs.specs.declared.calls.Reply.{Reply}
use Rattle.runs.specs.declared.calls.Reply.TheVariants.{Accepted, Counted, Refused}

-- a call, in slices of the lengths n
abbrev pub call_of : Lent → Call → R.Call
call_of n (Load text) = R.load (reading 256 text.now)
call_of n (Raise x) = R.raise (names_of x)
call_of n (Drop p) = R.drop (path_bytes p)
call_of n (Exclude x) = R.exclude (names_of x)
call_of n List = R.list n

abbrev pub listing_call_of : Lent → ListingCall → R.Call
listing_call_of n (Any c) = call_of n c
listing_call_of n (Lower x) = R.lower (path_bytes x.path) (version_bytes x.version) n

abbrev pub reply_told : Reply → R.Reply
reply_told Accepted = R.accepted
reply_told (Counted c) = R.counted c.places c.rows
reply_told (Refused r) = R.refused (refusal_of r)

-- A slice holds the replies told in front, and behind them what it held before.
pub record ToldIn (before after : L.List (Option Reply)) (told : L.List R.Reply) : Type 0 where
  pub front : L.map (option_map reply_told) (take (length told) after) ≡ L.map Some told
  pub behind : drop (length told) after ≡ drop (length told) before
