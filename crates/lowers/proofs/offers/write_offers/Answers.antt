-- One path more, a path whose offer stops it, and the end. Assumes nothing.
use Rattle.std.proofs.Common.{◌≡◌, ℕ, zero, suc, ◌+◌, ◌<◌, true, List, [], ◌∷◌, map, length, get_or, drop, Ok, sym, refl, ap, ◌∙◌, subst, arith}
use Rattle.std.specs.List.{AllByRecursion}
use Rattle.std.proofs.lemmas.List.{at_drop_more, at_drop_all}
use Rattle.rules.specs.Paths.{is_path}
use Rattle.rules.specs.Names.{ModuleVersion}
use Rattle.rules.specs.Sources.{Meaning}
use Rattle.rules.specs.Walks as R
use Rattle.rules.specs.Walks.{ended, done}
use Rattle.rules.specs.Lowers.{offer_written, offers_written}
use Rattle.modules.specs.Rows.{row_names}
use Rattle.modules.specs.declared.rows.Row.{Row}
use Rattle.walks.specs.Sheets.{sheet_of}
use Rattle.walks.proofs.Fillings.{sheet_short}
use Rattle.walks.proofs.Telling.{ends_by, ends_done}
use Rattle.lowers.proofs.Looking.{ceilings_formed}
use Rattle.lowers.proofs.Offering.{told_at, offer_ok}
use Rattle.lowers.proofs.offers.write_offers.Goals as goal

all_at : (P : ModuleVersion → Type 0) (rows : List Row) (i : ℕ) (x : Row) → AllByRecursion P (map row_names rows) → i < length rows → x ≡ get_or rows i x → P (row_names x)
all_at P [] i x a h e = absurd (omega arith)
all_at P (r ∷ rs) zero x a h e = subst (λ (y : Row). P (row_names y)) (sym e) a.0
all_at P (r ∷ rs) (suc i) x a h e = all_at P rs i x a.1 (omega arith) e

-- the ceiling in hand comes first of those that are left
first_left : (m : Meaning) (rows : List Row) (i : ℕ) (x : Row) (s : List R.Place) → i < length rows → x ≡ get_or rows i x
    → offers_written m (ended done) (map row_names (drop i rows)) s ≡ offer_written (offers_written m (ended done) (map row_names (drop (i + 1) rows))) (row_names x) s (m.listing (row_names x).path)
first_left m rows i x s h e =
    at_drop_more (λ (ys : List Row). offers_written m (ended done) (map row_names ys) s) rows i x h
    ∙ ap (λ (y : Row). offer_written (offers_written m (ended done) (map row_names (drop (i + 1) rows))) (row_names y) s (m.listing (row_names y).path)) (sym e)

pub write_offer-requires : goal.write_offer-requires
write_offer-requires g c =
    let formed = subst (λ (cs : List ModuleVersion). AllByRecursion (λ x. is_path x.path ≡ true) cs) (sym c.as_slice-ceiling-items.ensures.value) (ceilings_formed c.args.ceilings.now) in
    record { formed = all_at (λ x. is_path x.path ≡ true) c.as_slice-ceiling-items.result.now c.loop-ceiling.ceiling-index c.ceiling-item.result formed c.loop-ceiling-test.true c.ceiling-item.is }

pub loop-ceiling-preserved : goal.loop-ceiling-preserved
loop-ceiling-preserved g c =
    let (named, same, inside, rest) = c.loop-ceiling.invariant in
    let m = g.S.Source.meaning c.args.source.now in
    let rows = c.as_slice-ceiling-items.result.now in
    let i = c.loop-ceiling.ceiling-index in
    let x = c.ceiling-item.result in
    let s = sheet_of c.loop-ceiling.sheet in
    let left = sheet_of c.write_offer.new.sheet in
    let t = told_at (λ (q : Meaning). offer_written (ended done) (row_names x) s (q.listing (row_names x).path)) _ _ same (Ok tt) left c.in_ok-write_offer.ensures.value in
    let on = offer_ok m (offers_written m (ended done) (map row_names (drop (i + 1) rows))) (row_names x) s left t in (
      c.write_offer.ensures.same_reference ∙ named,
      c.in_ok-write_offer.ensures.same ∙ same,
      c.in_ok-write_offer.ensures.inside ∙ inside,
      sym (first_left m rows i x s c.loop-ceiling-test.true c.ceiling-item.is ∙ on) ∙ rest,
    )

pub returns-clause-value : goal.returns-clause-value
returns-clause-value g c =
    let (named, same, inside, rest) = c.loop-ceiling.invariant in
    let m = g.S.Source.meaning c.args.source.now in
    let s = sheet_of c.loop-ceiling.sheet in
    ends_by _ (ended done s) (Ok tt) s
    (sym rest ∙ at_drop_all (λ (ys : List Row). offers_written m (ended done) (map row_names ys) s) c.as_slice-ceiling-items.result.now c.loop-ceiling.ceiling-index c.loop-ceiling-test.false)
    (ends_done s s tt (sheet_short c.loop-ceiling.sheet) refl)
