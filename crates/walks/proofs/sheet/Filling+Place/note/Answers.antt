-- On the sheet, no room for it, or written behind the others. Assumes nothing.
use Rattle.std.proofs.Common.{rules, ◌≡◌, ℕ, zero, suc, ◌<◌, List, [], ◌∷◌, ◌++◌, map, length, get_or, take, set, Some, sym, refl, ap, ◌∙◌, arith}
use Rattle.std.specs.List.{slice_get}
use Rattle.std.proofs.lemmas.List.{length-append, length-map, take_at, map-append}
use Rattle.rules.specs.Walks as R
use Rattle.rules.specs.Walks.{module_versions, noted}
use Rattle.rules.proofs.Walks.{placed}
use Rattle.modules.specs.Rows.{row_names}
use Rattle.walks.specs.declared.place.Place.{Place}
use Rattle.walks.specs.Fillings.{items_of}
use Rattle.walks.specs.Places.{place_of, place_in}
use Rattle.walks.specs.Sheets.{sheet_of}
use Rattle.walks.proofs.Fillings.{sheet_short}
use Rattle.walks.proofs.Telling.{ends_room, ends_full}
use Rattle.walks.proofs.Noting.{place_there, noted_there, noted_new, noted_place}
use Rattle.walks.proofs.sheet.Filling+Place.note.Goals as goal

there : (c : goal.In-Some) → Some c.in-Some.at ≡ place_in (module_versions (sheet_of c.args.self.now)) (row_names c.args.row)
there c = c.in-Some.ensures.value ∙ ap (λ ps. place_in (module_versions (map place_of ps)) (row_names c.args.row)) c.as_slice.ensures.value

pub returns-in-Some-clause-value : goal.returns-in-Some-clause-value
returns-in-Some-clause-value c =
    let s = sheet_of c.args.self.now in
    let x = row_names c.args.row in
    let e = noted_there c.args.from x s c.in-Some.at (there c) in
    ends_room (noted c.args.from x s) s c.in-Some.at (omega (arith, ap length e, sheet_short c.args.self.now)) (sym e)

pub returns-in-Some-clause-place : goal.returns-in-Some-clause-place
returns-in-Some-clause-place c = place_there (module_versions (sheet_of c.args.self.now)) (row_names c.args.row) c.in-Some.at (there c)

-- what is set to what stands there
set_same : (ps : List Place) (i : ℕ) (d : Place) → i < length ps → set ps i (get_or ps i d) ≡ ps
set_same [] i d h = refl
set_same (p ∷ ps) zero d h = refl
set_same (p ∷ ps) (suc i) d h = ap (λ qs. p ∷ qs) (set_same ps i d (omega (arith, h)))

pub returns-then-at-eq-MOST-clause-value : goal.returns-then-at-eq-MOST-clause-value
returns-then-at-eq-MOST-clause-value c =
    let s = sheet_of c.args.self.now in
    let x = row_names c.args.row in
    let p = placed x c.args.from in
    let e = noted_new c.args.from x s (c.in_default.ensures.value ∙ ap (λ ps. place_in (module_versions (map place_of ps)) x) c.as_slice.ensures.value) in
    let full : length s ≡ 256 = omega (arith, length-map (items_of c.args.self.now) place_of, c.len-at.ensures.value, c.if-at-eq-MOST.true) in
    let whole : s ≡ take 256 (noted c.args.from x s) = sym (ap (take 256) e ∙ take_at s (p ∷ []) 256 full) in
    ends_full (noted c.args.from x s) _ c.from.result (omega (arith, ap length e, length-append s (p ∷ []), full)) c.from.ensures (search (rules, whole, set_same))

grown : (c : goal.After-push) → sheet_of c.push.new.self ≡ sheet_of c.args.self.now ++ placed (row_names c.args.row) c.args.from ∷ []
grown c = ap (map place_of) c.push.ensures.after ∙ map-append place_of (items_of c.args.self.now) (record { row = c.args.row; from = c.args.from } ∷ [])

pub returns-clause-value : goal.returns-clause-value
returns-clause-value c =
    let s = sheet_of c.args.self.now in
    let x = row_names c.args.row in
    let e = noted_new c.args.from x s (c.in_default.ensures.value ∙ ap (λ ps. place_in (module_versions (map place_of ps)) x) c.as_slice.ensures.value) in
    let w = grown c ∙ sym e in
    ends_room (noted c.args.from x s) (sheet_of c.push.new.self) c.len-at.result (omega (arith, ap length w, sheet_short c.push.new.self)) w

pub returns-clause-place : goal.returns-clause-place
returns-clause-place c =
    let s = sheet_of c.args.self.now in
    let x = row_names c.args.row in
    ap (λ (q : List R.Place). slice_get (module_versions q) c.len-at.result) (grown c)
    ∙ noted_place c.args.from x s c.len-at.result (length-map (items_of c.args.self.now) place_of ∙ sym c.len-at.ensures.value)
