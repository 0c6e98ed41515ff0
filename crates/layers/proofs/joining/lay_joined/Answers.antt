use Rattle.std.proofs.Common.{◌≡◌, ℕ, ◌-◌, ◌≤◌, map, length, take, sym, refl, ap, ◌∙◌, arith}
use Rattle.std.proofs.lemmas.List.{length-map, take_all}
use Rattle.rules.specs.Rows.{joined_versions}
use Rattle.rules.specs.Slices.{blank_version, filled}
use Rattle.rules.specs.Sources.{found, at_most_64, over_64}
use Rattle.versions.specs.Values.{plain_version_bytes}
use Rattle.modules.specs.Tables.{listing_bytes}
use Rattle.ordered.specs.Held.{fitting}
use Rattle.source.proofs.Telling.{tells_fault, tells_found}
use Rattle.layers.proofs.Joined.{fitted, unfitted, few_listed, many_listed}
use Rattle.layers.proofs.joining.lay_joined.Goals as goal

pub returns-in-Some : goal.returns-in-Some
returns-in-Some c =
    let n = length c.args.versions.now in
    let z : c.args.count - 0 ≡ c.args.count = omega arith in
    let joins = λ (k : ℕ). joined_versions (listing_bytes c.args.listing.now) (map plain_version_bytes (take k c.args.versions.now)) in
    let f = fitted _ (joins c.args.count) (c.in-Some.ensures ∙ ap (λ k. fitting 64 (joins k)) z) in
    let xs = c.as_slice-joined.result.now in
    let room : length xs ≤ n = omega (arith, c.requires.long, f.1, ap length f.0, ap length c.as_slice-joined.ensures, length-map xs plain_version_bytes) in
    let (value, items) = tells_found plain_version_bytes blank_version n (at_most_64 (found (joins c.args.count))) xs c.blank.result _ c.lay.new.items c.requires.long
    (few_listed (joins c.args.count) f.1 ∙ ap found (sym (c.as_slice-joined.ensures ∙ f.0))) c.blank.ensures refl (c.lay.ensures.items ∙ ap (filled c.blank.result n) (take_all n xs room)) in
    record { value = value; items = items }

pub returns-in-None : goal.returns-in-None
returns-in-None c =
    let n = length c.args.versions.now in
    let z : c.args.count - 0 ≡ c.args.count = omega arith in
    let joins = λ (k : ℕ). joined_versions (listing_bytes c.args.listing.now) (map plain_version_bytes (take k c.args.versions.now)) in
    let many = unfitted (joins c.args.count) (c.in-None.ensures ∙ ap (λ k. fitting 64 (joins k)) z) in
    let (value, items) = tells_fault plain_version_bytes blank_version n (at_most_64 (found (joins c.args.count))) over_64 c.blank-in-None.result _ c.refuse.new.items c.requires.long
    (many_listed (joins c.args.count) many) c.blank-in-None.ensures c.refuse.ensures.value c.refuse.ensures.items in
    record { value = value; items = items }
