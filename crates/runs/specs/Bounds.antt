-- What is read into a call is in bounds.
use Rattle.std.proofs.Common.{◌≡◌, refl}
use Rattle.rules.specs.Orders.{Bytes}
use Rattle.rules.specs.Manifests as M
use Rattle.rules.specs.Calls as R
use Rattle.rules.specs.Slices.{Lent}
use Rattle.rules.specs.Runs.{InBounds}
use Rattle.rules.proofs.Readings.{well_formed}
use Rattle.runs.specs.Told.{call_of, listing_call_of}
use Rattle.runs.specs.declared.calls.Call.{Call}
use Rattle.runs.specs.declared.calls.Call.TheVariants.{Load, Raise, Drop, Exclude, List as Lists}
use Rattle.runs.specs.declared.calls.ListingCall.{ListingCall}
use Rattle.runs.specs.declared.calls.ListingCall.TheVariants.{Any, Lower}

read_in_bounds : (text : Bytes) (r : M.Reading) → M.reading 256 text ≡ r → InBounds (R.load r)
read_in_bounds text (M.manifest t) e = let few = (well_formed 256 text t e).0 in (few.require_rows, few.exclude_rows)
read_in_bounds text (M.unread c k) e = tt

pub in_bounds : (n : Lent) (c : Call) → InBounds (call_of n c)
in_bounds n (Load t) = read_in_bounds t.now (M.reading 256 t.now) refl
in_bounds n (Raise x) = tt
in_bounds n (Drop p) = tt
in_bounds n (Exclude x) = tt
in_bounds n Lists = tt

pub listing_in_bounds : (n : Lent) (c : ListingCall) → InBounds (listing_call_of n c)
listing_in_bounds n (Any c) = in_bounds n c
listing_in_bounds n (Lower x) = tt
