-- The row is above its ceiling, or it is questioned. Assumes nothing.
use Rattle.std.proofs.Common.{◌≡◌, ℕ, ◌<◌, false, List, length, get_or, Some, Ok, sym, refl, ap, ◌∙◌, subst, arith}
use Rattle.std.specs.List.{slice_get}
use Rattle.std.proofs.lemmas.List.{length-map}
use Rattle.rules.specs.Names.{ModuleVersion}
use Rattle.rules.specs.Walks.{module_versions, ended, done}
use Rattle.rules.specs.Lowers.{is_above}
use Rattle.names.specs.Paths.{path_bytes}
use Rattle.modules.specs.Rows.{row_names}
use Rattle.walks.specs.declared.filling.Filling.{Filling}
use Rattle.walks.specs.declared.place.Place.{Place}
use Rattle.walks.specs.Fillings.{items_of}
use Rattle.walks.specs.Places.{place_of}
use Rattle.walks.specs.Sheets.{sheet_of}
use Rattle.walks.specs.Views.{seen_by}
use Rattle.walks.proofs.Fillings.{sheet_short, row_read}
use Rattle.walks.proofs.Telling.{ends_by, ends_done}
use Rattle.lowers.specs.Ceilings.{ceiling_rows}
use Rattle.lowers.proofs.Edging.{knows_bad}
use Rattle.lowers.proofs.Asking.{here_above, bad_above}
use Rattle.lowers.proofs.walk.question_under.Goals as goal

-- the row that is read stands at the place
row_there : (s : Filling Place) (i : ℕ) (d : Place) (ps : List Place) → ps ≡ items_of s → i < length (sheet_of s) → slice_get (module_versions (sheet_of s)) i ≡ Some (row_names (get_or ps i d).row)
row_there s i d ps is h =
    row_read (items_of s) i d (omega (arith, h, length-map (items_of s) place_of)) ∙ ap (λ (qs : List Place). Some (row_names (get_or qs i d).row)) (sym is)

pub returns-then-is_above-clause-value : goal.returns-then-is_above-clause-value
returns-then-is_above-clause-value g c =
    let i = c.args.at in
    let s = sheet_of c.args.sheet.now in
    let w = seen_by (path_bytes c.args.main.now) (g.S.Source.meaning c.args.source.now) in
    let cs = ceiling_rows c.args.ceilings.now in
    let in_sheet : i < length s = omega (arith, c.requires.place) in
    let there = row_there c.args.sheet.now i c.index-as_slice-at.result c.as_slice.result.now c.as_slice.ensures.value in_sheet in
    let short = sheet_short c.args.sheet.now in
    ends_by _ (ended done s) (Ok tt) s (here_above w cs i s _ there short (sym c.if-is_above.ensures.value)) (ends_done s s tt short refl)

pub returns-then-is_above-clause-learned : goal.returns-then-is_above-clause-learned
returns-then-is_above-clause-learned g c =
    let i = c.args.at in
    let s = sheet_of c.args.sheet.now in
    let w = seen_by (path_bytes c.args.main.now) (g.S.Source.meaning c.args.source.now) in
    let cs = ceiling_rows c.args.ceilings.now in
    let in_sheet : i < length s = omega (arith, c.requires.place) in
    let there = row_there c.args.sheet.now i c.index-as_slice-at.result c.as_slice.result.now c.as_slice.ensures.value in_sheet in
    let wide : i < length c.args.learned.now.marked = omega (arith, c.args.learned.now.wide, in_sheet, sheet_short c.args.sheet.now) in
    knows_bad w cs s c.args.learned.now c.mark.new.self i _ c.requires.knows there (bad_above w cs _ (sym c.if-is_above.ensures.value)) wide c.mark.ensures.marks c.mark.ensures.edges

pub ask_place-requires-clause-under : goal.ask_place-requires-clause-under
ask_place-requires-clause-under g c =
    let i = c.args.at in
    let cs = ceiling_rows c.args.ceilings.now in
    let in_sheet : i < length (sheet_of c.args.sheet.now) = omega (arith, c.requires.place) in
    let there = row_there c.args.sheet.now i c.index-as_slice-at.result c.as_slice.result.now c.as_slice.ensures.value in_sheet in
    λ y h. let same : row_names (get_or c.as_slice.result.now i c.index-as_slice-at.result).row ≡ y = cc in subst (λ (z : ModuleVersion). is_above cs z ≡ false) same (sym c.if-is_above.ensures.value)
