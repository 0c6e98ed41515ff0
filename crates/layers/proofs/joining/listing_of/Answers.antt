use Rattle.std.proofs.Common.{◌≡◌, ℕ, ◌≤◌, List, map, length, Some, None, Option, refl, sym, ap, ◌∙◌, arith}
use Rattle.std.specs.Option.{IsSome, option_map}
use Rattle.std.proofs.lemmas.List.{length-map}
use Rattle.rules.specs.Orders.{Bytes}
use Rattle.versions.specs.Values.{plain_version_bytes}
use Rattle.modules.specs.Tables.{listing_bytes}
use Rattle.modules.specs.declared.listing.Listing.{Listing}
use Rattle.layers.proofs.Joined.{joined_whole}
use Rattle.layers.proofs.joining.listing_of.Goals as goal

is_there : (o : Option Listing) (vs : List Bytes) → option_map listing_bytes o ≡ Some vs → IsSome o
is_there None vs e = let z : ◌≡◌ {A = ℕ} 0 1 = cc in absurd (omega arith)
is_there (Some t) vs e = refl

the_same : (us vs : List Bytes) → ◌≡◌ {A = Option (List Bytes)} (Some us) (Some vs) → us ≡ vs
the_same us vs e = cc

pub unwrap-requires : goal.unwrap-requires
unwrap-requires c =
    let vs = map plain_version_bytes c.args.versions.now in
    let few : length vs ≤ 64 = omega (arith, length-map c.args.versions.now plain_version_bytes, c.requires.few) in
    is_there c.join.result vs (c.join.ensures ∙ joined_whole _ vs c.new.ensures c.requires.ascending few)

pub returns : goal.returns
returns c =
    let vs = map plain_version_bytes c.args.versions.now in
    let few : length vs ≤ 64 = omega (arith, length-map c.args.versions.now plain_version_bytes, c.requires.few) in
    record { value = the_same _ vs (ap (option_map listing_bytes) (sym c.unwrap.ensures) ∙ c.join.ensures ∙ joined_whole _ vs c.new.ensures c.requires.ascending few) }
