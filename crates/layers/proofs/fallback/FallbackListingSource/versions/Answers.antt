-- A short slice, and what both list. Assumes nothing.
use Rattle.std.proofs.Common.{◌≤◌, map, length, take, sym, refl, ap, ◌∙◌, ap₂, arith, leb-true, leb-false}
use Rattle.rules.specs.Sources.{fault}
use Rattle.rules.specs.Questions.{too_short, told}
use Rattle.names.specs.Paths.{path_bytes}
use Rattle.rules.specs.Slices.{blank_version}
use Rattle.versions.specs.Values.{plain_version_bytes}
use Rattle.source.proofs.Telling.{tells_short, found_told}
use Rattle.source.specs.Answers.{answer_of}
use Rattle.layers.proofs.Layered.{found_below}
use Rattle.layers.proofs.Joined.{both_found}
use Rattle.layers.proofs.fallback.FallbackListingSource.versions.Goals as goal

pub returns-in_err-check_room-clause-items : goal.returns-in_err-check_room-clause-items
returns-in_err-check_room-clause-items g c =
    let n = length c.args.versions.now in
    (tells_short plain_version_bytes blank_version n _ c.blank.result (fault too_short) _ (leb-false 64 n (sym c.in_err-check_room.ensures.long)) c.blank.ensures refl c.in_err-check_room.ensures.items).1

pub listing_of-listing-requires-clause-ascending : goal.listing_of-listing-requires-clause-ascending
listing_of-listing-requires-clause-ascending g c =
    let s = c.args.self.now in
    let a = g.F.Source.meaning s.first in
    let p = path_bytes c.args.of.now in
    let n = length c.args.versions.now in
    let long : 64 ≤ n = leb-true 64 n (sym c.in_ok-check_room.ensures.long) in
    let lent = ap length c.in_ok-check_room.ensures.items in
    let one = c.versions.new.versions in
    let k = c.in_ok-found.found.count in
    let on = found_below c.versions.result c.map_err.result _ c.map_err.ensures.cases c.in_ok-found.found c.in_ok-found.was in
    let e = found_told plain_version_bytes blank_version (length c.check_room.new.items) k (a.listing p) one (omega (arith, long, lent))
    (ap answer_of (sym on) ∙ c.versions.ensures.value, c.versions.ensures.items) in
    (g.F.Source.lawful s.first).ascending p (map plain_version_bytes (take k one)) e

pub returns-clause-value : goal.returns-clause-value
returns-clause-value g c =
    let s = c.args.self.now in
    let a = g.F.Source.meaning s.first in
    let p = path_bytes c.args.of.now in
    let n = length c.args.versions.now in
    let long : 64 ≤ n = leb-true 64 n (sym c.in_ok-check_room.ensures.long) in
    let lent = ap length c.in_ok-check_room.ensures.items in
    let one = c.versions.new.versions in
    let k = c.in_ok-found.found.count in
    let on = found_below c.versions.result c.map_err.result _ c.map_err.ensures.cases c.in_ok-found.found c.in_ok-found.was in
    let e = found_told plain_version_bytes blank_version (length c.check_room.new.items) k (a.listing p) one (omega (arith, long, lent))
    (ap answer_of (sym on) ∙ c.versions.ensures.value, c.versions.ensures.items) in
    let b = g.S.Source.meaning s.second in
    let two = c.versions-2.new.versions in
    let j = c.in_ok-others.others.count in
    let on2 = found_below c.versions-2.result c.map_err-2.result _ c.map_err-2.ensures.cases c.in_ok-others.others c.in_ok-others.was in
    let f = found_told plain_version_bytes blank_version (length one) j (b.listing p) two (omega (arith, long, lent, c.versions.auto.versions))
    (ap answer_of (sym on2) ∙ c.versions-2.ensures.value, c.versions-2.ensures.items) in
    let u = c.listing_of-listing.ensures.value in
    let w = both_found a b p _ (map plain_version_bytes (take k one)) (map plain_version_bytes (take j two)) u e f in
    c.lay_joined.ensures.value ∙ ap₂ (λ i z. (told blank_version i z).answer) (c.versions-2.auto.versions ∙ c.versions.auto.versions ∙ lent) w

pub returns-clause-items : goal.returns-clause-items
returns-clause-items g c =
    let s = c.args.self.now in
    let a = g.F.Source.meaning s.first in
    let p = path_bytes c.args.of.now in
    let n = length c.args.versions.now in
    let long : 64 ≤ n = leb-true 64 n (sym c.in_ok-check_room.ensures.long) in
    let lent = ap length c.in_ok-check_room.ensures.items in
    let one = c.versions.new.versions in
    let k = c.in_ok-found.found.count in
    let on = found_below c.versions.result c.map_err.result _ c.map_err.ensures.cases c.in_ok-found.found c.in_ok-found.was in
    let e = found_told plain_version_bytes blank_version (length c.check_room.new.items) k (a.listing p) one (omega (arith, long, lent))
    (ap answer_of (sym on) ∙ c.versions.ensures.value, c.versions.ensures.items) in
    let b = g.S.Source.meaning s.second in
    let two = c.versions-2.new.versions in
    let j = c.in_ok-others.others.count in
    let on2 = found_below c.versions-2.result c.map_err-2.result _ c.map_err-2.ensures.cases c.in_ok-others.others c.in_ok-others.was in
    let f = found_told plain_version_bytes blank_version (length one) j (b.listing p) two (omega (arith, long, lent, c.versions.auto.versions))
    (ap answer_of (sym on2) ∙ c.versions-2.ensures.value, c.versions-2.ensures.items) in
    let u = c.listing_of-listing.ensures.value in
    let w = both_found a b p _ (map plain_version_bytes (take k one)) (map plain_version_bytes (take j two)) u e f in
    c.lay_joined.ensures.items ∙ ap₂ (λ i z. (told blank_version i z).slice) (c.versions-2.auto.versions ∙ c.versions.auto.versions ∙ lent) w
