-- One way for each answer. Assumes nothing.
use Rattle.std.proofs.Common.{◌≤◌, List, [], length, take, sym, refl, ap, ◌∙◌, arith, leb-true, leb-false}
use Rattle.std.specs.Option.{option_map}
use Rattle.std.proofs.lemmas.List.{length-map, take_all}
use Rattle.rules.specs.Sources.{found, fault, over_64}
use Rattle.rules.specs.Questions.{too_short}
use Rattle.rules.specs.Slices.{blank_version, filled}
use Rattle.versions.specs.Values.{plain_version_bytes}
use Rattle.versions.specs.Values.{PlainVersion}
use Rattle.modules.specs.Tables.{listing_bytes}
use Rattle.source.proofs.Telling.{tells_short, tells_fault, tells_found}
use Rattle.bottoms.specs.Items.{listing_answer}
use Rattle.bottoms.proofs.Entering.{listing_fits}
use Rattle.bottoms.proofs.listed.answer_listing.Goals as goal

pub returns-in_err-check_room-clause-items : goal.returns-in_err-check_room-clause-items
returns-in_err-check_room-clause-items c =
    let n = length c.args.versions.now in
    (tells_short plain_version_bytes blank_version n _ c.blank-blank.result (fault too_short) _ (leb-false 64 n (sym c.in_err-check_room.ensures.long))
    c.blank-blank.ensures refl c.in_err-check_room.ensures.items).1

pub returns-in_default : goal.returns-in_default
returns-in_default c =
    let n = length c.args.versions.now in
    let same = ap (λ (ys : List PlainVersion). filled c.blank-blank.result (length ys) []) c.in_ok-check_room.ensures.items in
    let (value, items) = tells_fault plain_version_bytes blank_version n (listing_answer (option_map listing_bytes c.args.listing)) over_64 c.blank-blank.result _
    c.refuse.new.items (leb-true 64 n (sym c.in_ok-check_room.ensures.long)) (ap (λ o. listing_answer (option_map listing_bytes o)) c.in_default.is)
    c.blank-blank.ensures c.refuse.ensures.value (c.refuse.ensures.items ∙ same) in
    record { value = value; items = items }

pub returns : goal.returns
returns c =
    let xs = c.as_slice-listed.result.now in
    let n = length c.args.versions.now in
    let long : 64 ≤ n = leb-true 64 n (sym c.in_ok-check_room.ensures.long) in
    let room : length xs ≤ n = omega (arith, long, listing_fits c.in-Some.listing, ap length c.as_slice-listed.ensures, length-map xs plain_version_bytes) in
    let same = ap (λ (ys : List PlainVersion). filled c.blank-blank.result (length ys) (take (length ys) xs)) c.in_ok-check_room.ensures.items in
    let (value, items) = tells_found plain_version_bytes blank_version n (listing_answer (option_map listing_bytes c.args.listing))
    xs c.blank-blank.result _ c.lay.new.items long
    (ap (λ o. listing_answer (option_map listing_bytes o)) c.in-Some.is ∙ ap found (sym c.as_slice-listed.ensures))
    c.blank-blank.ensures refl (c.lay.ensures.items ∙ same ∙ ap (filled c.blank-blank.result n) (take_all n xs room)) in
    record { value = value; items = items }
