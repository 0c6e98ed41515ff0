-- One way for each answer. Assumes nothing.
use Rattle.std.proofs.Common.{◌≤◌, not, length, take, filter, sym, refl, ap, ◌∙◌, arith, leb-true, leb-false}
use Rattle.rules.specs.Names.{has, at}
use Rattle.rules.specs.Sources.{found, fault, excluding}
use Rattle.rules.specs.Questions.{too_short}
use Rattle.rules.specs.Slices.{blank_version, filled}
use Rattle.names.specs.Paths.{path_bytes, plain_path_bytes}
use Rattle.versions.specs.Values.{plain_version_bytes}
use Rattle.modules.specs.Tables.{exclusion_names}
use Rattle.source.specs.Answers.{answer_of}
use Rattle.source.proofs.Telling.{tells_short, tells_found, found_told}
use Rattle.layers.proofs.Layered.{excluded_listing, found_below}
use Rattle.layers.proofs.exclude.ExcludeListingSource.versions.Goals as goal

pub returns-in_err-check_room-clause-items : goal.returns-in_err-check_room-clause-items
returns-in_err-check_room-clause-items g c =
    let n = length c.args.versions.now in
    (tells_short plain_version_bytes blank_version n _ c.blank.result (fault too_short) _ (leb-false 64 n (sym c.in_err-check_room.ensures.long)) c.blank.ensures refl c.in_err-check_room.ensures.items).1

pub returns-clause-value : goal.returns-clause-value
returns-clause-value g c =
    let s = c.args.self.now in
    let es = exclusion_names s.exclusions in
    let m = g.S.Source.meaning s.below in
    let p = path_bytes c.args.of.now in
    let n = length c.args.versions.now in
    let long : 64 ≤ n = leb-true 64 n (sym c.in_ok-check_room.ensures.long) in
    let lent = ap length c.in_ok-check_room.ensures.items in
    let vs = take c.in_ok-found.found.count c.versions.new.versions in
    let kept = filter (λ v. not (has es (at p (plain_version_bytes v)))) vs in
    let path = ap (λ q. filter (λ v. not (has es (at (plain_path_bytes q) (plain_version_bytes v)))) vs) c.plain.ensures in
    let on = found_below c.versions.result c.map_err.result _ c.map_err.ensures.cases c.in_ok-found.found c.in_ok-found.was in
    let below = found_told plain_version_bytes blank_version (length c.check_room.new.items) c.in_ok-found.found.count (m.listing p) c.versions.new.versions (omega (arith, long, lent))
    (ap answer_of (sym on) ∙ c.versions.ensures.value, c.versions.ensures.items) in
    (tells_found plain_version_bytes blank_version n ((excluding es m).listing p) kept c.blank-2.result (found c.keep-count.result) c.keep-count.new.items long
    (excluded_listing es m p vs below) c.blank-2.ensures (ap found (c.keep-count.ensures.value ∙ ap length path))
    (c.keep-count.ensures.items ∙ ap (filled c.blank-2.result (length c.versions.new.versions)) path ∙ ap (λ k. filled c.blank-2.result k kept) (c.versions.auto.versions ∙ lent))).0

pub returns-clause-items : goal.returns-clause-items
returns-clause-items g c =
    let s = c.args.self.now in
    let es = exclusion_names s.exclusions in
    let m = g.S.Source.meaning s.below in
    let p = path_bytes c.args.of.now in
    let n = length c.args.versions.now in
    let long : 64 ≤ n = leb-true 64 n (sym c.in_ok-check_room.ensures.long) in
    let lent = ap length c.in_ok-check_room.ensures.items in
    let vs = take c.in_ok-found.found.count c.versions.new.versions in
    let kept = filter (λ v. not (has es (at p (plain_version_bytes v)))) vs in
    let path = ap (λ q. filter (λ v. not (has es (at (plain_path_bytes q) (plain_version_bytes v)))) vs) c.plain.ensures in
    let on = found_below c.versions.result c.map_err.result _ c.map_err.ensures.cases c.in_ok-found.found c.in_ok-found.was in
    let below = found_told plain_version_bytes blank_version (length c.check_room.new.items) c.in_ok-found.found.count (m.listing p) c.versions.new.versions (omega (arith, long, lent))
    (ap answer_of (sym on) ∙ c.versions.ensures.value, c.versions.ensures.items) in
    (tells_found plain_version_bytes blank_version n ((excluding es m).listing p) kept c.blank-2.result (found c.keep-count.result) c.keep-count.new.items long
    (excluded_listing es m p vs below) c.blank-2.ensures (ap found (c.keep-count.ensures.value ∙ ap length path))
    (c.keep-count.ensures.items ∙ ap (filled c.blank-2.result (length c.versions.new.versions)) path ∙ ap (λ k. filled c.blank-2.result k kept) (c.versions.auto.versions ∙ lent))).1
