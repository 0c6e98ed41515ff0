-- One version more, one for which there is no room, and the end. Assumes nothing.
use Rattle.std.proofs.Common.{◌≤◌, List, length, reverse, sym, ap, ◌∙◌, arith, rules}
use Rattle.std.proofs.lemmas.List.{length_push}
use Rattle.std.proofs.lemmas.Result.{err_from_is_err_and}
use Rattle.std.proofs.lemmas.Iterator.Adapters.{YieldsList-from_rev_slice}
use Rattle.std.proofs.lemmas.Iterator.Consumers.{YieldsList-at, YieldsList-turn, YieldsList-end}
use Rattle.rules.specs.Names.{ModuleVersion}
use Rattle.rules.specs.Walks.{written}
use Rattle.modules.specs.Rows.{row_names}
use Rattle.walks.specs.Sheets.{sheet_of}
use Rattle.walks.proofs.Fillings.{sheet_short}
use Rattle.walks.proofs.Telling.{ends_room}
use Rattle.lowers.proofs.Offering.{offer_parts, sheet_with, with_none, version_ok, version_err}
use Rattle.lowers.proofs.offers.write_versions.Goals as goal

pub loop-version-preserved : goal.loop-version-preserved
loop-version-preserved c =
    let (_, _, named, left) = c.loop-version.invariant in
    let k = row_names c.args.ceiling.now in
    let us = reverse c.args.versions.now in
    let after = sheet_of c.write_version.new.sheet in
    let (h, read) = YieldsList-turn (YieldsList-at c.into_iter-version-iterator.ensures.into_iter_gives (YieldsList-from_rev_slice c.args.versions.now cc))
    c.loop-version.yielded _ c.loop-version.yielded_by _ _ c.in-Some.version c.in-Some.is c.next.ensures.steps in (
      search rules,
      search rules,
      c.write_version.ensures.same_reference ∙ named,
      ap (sheet_with k us after) (length_push c.loop-version.yielded c.in-Some.version)
          ∙ version_ok k us (length c.loop-version.yielded) c.in-Some.version.now h read (sheet_of c.loop-version.sheet) after c.in_ok-write_version.ensures.value
          ∙ left,
    )

pub returns-in_err-write_version-clause-value : goal.returns-in_err-write_version-clause-value
returns-in_err-write_version-clause-value c =
    let (_, _, named, left) = c.loop-version.invariant in
    let k = row_names c.args.ceiling.now in
    let vs = c.args.versions.now in
    let s = sheet_of c.args.sheet.now in
    let (h, read) = YieldsList-turn (YieldsList-at c.into_iter-version-iterator.ensures.into_iter_gives (YieldsList-from_rev_slice vs cc))
    c.loop-version.yielded _ c.loop-version.yielded_by _ _ c.in-Some.version c.in-Some.is c.next.ensures.steps in
    let whole = left ∙ ap (λ (xs : List ModuleVersion). written 0 xs s) (sym (offer_parts k vs)) in
    let p = err_from_is_err_and c.from_residual.result c.from_residual.ensures.1 in
    rw (p.1, p.2)
    (version_err k (reverse vs) (length c.loop-version.yielded) c.in-Some.version.now h read (sheet_of c.loop-version.sheet) (sheet_of c.write_version.new.sheet) _ whole c.in_err-write_version.field-0.0
    c.in_err-write_version.ensures.value)

pub returns-clause-value : goal.returns-clause-value
returns-clause-value c =
    let (_, _, named, left) = c.loop-version.invariant in
    let k = row_names c.args.ceiling.now in
    let vs = c.args.versions.now in
    let s = sheet_of c.loop-version.sheet in
    let (all, out) = YieldsList-end (YieldsList-at c.into_iter-version-iterator.ensures.into_iter_gives (YieldsList-from_rev_slice vs cc))
    c.loop-version.yielded _ c.loop-version.yielded_by _ _ c.in-None.is c.next.ensures.steps in
    let ended_so : length (reverse vs) ≤ length c.loop-version.yielded = omega (arith, out) in
    let e = sym (with_none k (reverse vs) s (length c.loop-version.yielded) ended_so) ∙ left ∙ ap (λ (xs : List ModuleVersion). written 0 xs (sheet_of c.args.sheet.now)) (sym (offer_parts k vs)) in
    ends_room _ s tt (omega (arith, ap length e, sheet_short c.loop-version.sheet)) e
