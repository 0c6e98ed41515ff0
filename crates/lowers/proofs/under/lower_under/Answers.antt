-- The offers are written and the places questioned, or it stopped. Assumes nothing.
use Rattle.std.proofs.Common.{◌≡◌, Bool, true, false, List, map, length, get_or, sym, ap, ◌∙◌, subst, arith}
use Rattle.std.proofs.lemmas.Result.{err_from_is_err_and}
use Rattle.std.proofs.lemmas.List.{length-map}
use Rattle.rules.specs.Texts.{every}
use Rattle.rules.specs.Names.{ModuleVersion, is_module_version}
use Rattle.names.specs.Paths.{path_bytes}
use Rattle.walks.specs.Fillings.{items_of}
use Rattle.walks.specs.Places.{place_of}
use Rattle.walks.specs.Sheets.{sheet_of}
use Rattle.walks.specs.Views.{seen_by}
use Rattle.lowers.specs.Ceilings.{ceiling_rows}
use Rattle.lowers.proofs.Edging.{knows_none}
use Rattle.lowers.proofs.Kept.{not_begun, mid_long, mid_formed, none_marked, first_within, narrow_told, value_told, kept_told, formed_told, stopped_told}
use Rattle.lowers.proofs.under.lower_under.Goals as goal

pub walk_under-requires : goal.walk_under-requires
walk_under-requires g c =
    let w = seen_by (path_bytes c.args.main.now) (g.S.Source.meaning c.args.source.now) in record {
      begun = mid_long w (g.S.Source.lawful c.args.source.now) c.args.ceilings.now c.requires.apart (sheet_of c.args.sheet.now) (sheet_of c.write_offers.new.sheet) c.requires.begun c.in_ok-write_offers.ensures.value;
      formed = mid_formed w (g.S.Source.lawful c.args.source.now) c.args.ceilings.now c.requires.apart (sheet_of c.args.sheet.now) (sheet_of c.write_offers.new.sheet) c.requires.begun c.in_ok-write_offers.ensures.value;
      knows = knows_none _ (ceiling_rows c.args.ceilings.now) (sheet_of c.write_offers.new.sheet) c.new-learned.result
          (λ i. ap (λ (bs : List Bool). get_or bs i false) c.new-learned.ensures.marks ∙ none_marked 256 i) c.new-learned.ensures.edges;
    }

pub spread-requires : goal.spread-requires
spread-requires g c =
    let w = seen_by (path_bytes c.args.main.now) (g.S.Source.meaning c.args.source.now) in
    narrow_told w (g.S.Source.lawful c.args.source.now) c.args.ceilings.now c.requires.apart (sheet_of c.args.sheet.now) (sheet_of c.write_offers.new.sheet) c.requires.begun c.in_ok-write_offers.ensures.value
    _ c.in_ok-write_offers.ensures.same (sheet_of c.walk_under.new.sheet) c.in_ok-walk_under.ensures.value c.walk_under.new.learned c.in_ok-walk_under.ensures.learned

pub slice_bounds-keep_rows-count : goal.slice_bounds-keep_rows-count
slice_bounds-keep_rows-count g c =
    let w = seen_by (path_bytes c.args.main.now) (g.S.Source.meaning c.args.source.now) in
    omega (arith, c.len-offered.ensures.value, length-map (items_of c.write_offers.new.sheet) place_of, mid_long w (g.S.Source.lawful c.args.source.now) c.args.ceilings.now c.requires.apart (sheet_of c.args.sheet.now) (sheet_of c.write_offers.new.sheet) c.requires.begun c.in_ok-write_offers.ensures.value)

pub slice_bounds-keep_rows-start : goal.slice_bounds-keep_rows-start
slice_bounds-keep_rows-start g c =
    let w = seen_by (path_bytes c.args.main.now) (g.S.Source.meaning c.args.source.now) in
    omega (arith, c.len-offered.ensures.value, length-map (items_of c.write_offers.new.sheet) place_of, mid_long w (g.S.Source.lawful c.args.source.now) c.args.ceilings.now c.requires.apart (sheet_of c.args.sheet.now) (sheet_of c.write_offers.new.sheet) c.requires.begun c.in_ok-write_offers.ensures.value)

pub slice_bounds-keep_rows-end : goal.slice_bounds-keep_rows-end
slice_bounds-keep_rows-end g c =
    let w = seen_by (path_bytes c.args.main.now) (g.S.Source.meaning c.args.source.now) in
    let grown = first_within w (g.S.Source.lawful c.args.source.now) c.args.ceilings.now c.requires.apart (sheet_of c.args.sheet.now) (sheet_of c.write_offers.new.sheet) c.requires.begun c.in_ok-write_offers.ensures.value
    _ c.in_ok-write_offers.ensures.same (sheet_of c.walk_under.new.sheet) c.in_ok-walk_under.ensures.value in
    omega (
      arith,
      c.len-offered.ensures.value,
      length-map (items_of c.write_offers.new.sheet) place_of,
      grown,
      length-map (items_of c.walk_under.new.sheet) place_of,
      ap length c.as_slice.ensures.value,
    )

pub returns-clause-value : goal.returns-clause-value
returns-clause-value g c =
    let w = seen_by (path_bytes c.args.main.now) (g.S.Source.meaning c.args.source.now) in
    value_told w (g.S.Source.lawful c.args.source.now) c.args.ceilings.now c.requires.apart (sheet_of c.args.sheet.now) (sheet_of c.write_offers.new.sheet) c.requires.begun c.in_ok-write_offers.ensures.value
    _ c.in_ok-write_offers.ensures.same (sheet_of c.walk_under.new.sheet) c.in_ok-walk_under.ensures.value _

pub returns-clause-kept : goal.returns-clause-kept
returns-clause-kept g c =
    let w = seen_by (path_bytes c.args.main.now) (g.S.Source.meaning c.args.source.now) in
    c.keep_rows-kept.ensures.value
    ∙ kept_told w (g.S.Source.lawful c.args.source.now) c.args.ceilings.now c.requires.apart (sheet_of c.args.sheet.now) (sheet_of c.write_offers.new.sheet) c.requires.begun c.in_ok-write_offers.ensures.value
    _ c.in_ok-write_offers.ensures.same (sheet_of c.walk_under.new.sheet) c.in_ok-walk_under.ensures.value c.walk_under.new.learned c.in_ok-walk_under.ensures.learned
    c.spread.new.self c.spread.ensures.marks c.as_slice.result.now (ap (map place_of) c.as_slice.ensures.value) c.len-offered.result
    (c.len-offered.ensures.value ∙ sym (length-map (items_of c.write_offers.new.sheet) place_of))

pub returns-clause-formed : goal.returns-clause-formed
returns-clause-formed g c =
    let w = seen_by (path_bytes c.args.main.now) (g.S.Source.meaning c.args.source.now) in
    subst (λ (xs : List ModuleVersion). every is_module_version xs ≡ true) (sym c.keep_rows-kept.ensures.value)
    (formed_told w (g.S.Source.lawful c.args.source.now) c.args.ceilings.now c.requires.apart (sheet_of c.args.sheet.now) (sheet_of c.write_offers.new.sheet) c.requires.begun c.in_ok-write_offers.ensures.value
    _ c.in_ok-write_offers.ensures.same (sheet_of c.walk_under.new.sheet) c.in_ok-walk_under.ensures.value c.walk_under.new.learned c.in_ok-walk_under.ensures.learned
    c.spread.new.self c.spread.ensures.marks c.as_slice.result.now (ap (map place_of) c.as_slice.ensures.value) c.len-offered.result
    (c.len-offered.ensures.value ∙ sym (length-map (items_of c.write_offers.new.sheet) place_of)))

pub returns-in_err-walk_under-clause-value : goal.returns-in_err-walk_under-clause-value
returns-in_err-walk_under-clause-value g c =
    let w = seen_by (path_bytes c.args.main.now) (g.S.Source.meaning c.args.source.now) in
    let p = err_from_is_err_and c.from_residual-in_err-walk_under.result c.from_residual-in_err-walk_under.ensures.1 in
    rw (p.1, p.2)
    (stopped_told w (g.S.Source.lawful c.args.source.now) c.args.ceilings.now c.requires.apart (sheet_of c.args.sheet.now) (sheet_of c.write_offers.new.sheet) c.requires.begun c.in_ok-write_offers.ensures.value
    _ c.in_ok-write_offers.ensures.same c.in_err-walk_under.field-0.0 (sheet_of c.walk_under.new.sheet) c.in_err-walk_under.ensures.value)

pub returns-in_err-write_offers-clause-value : goal.returns-in_err-write_offers-clause-value
returns-in_err-write_offers-clause-value g c =
    let w = seen_by (path_bytes c.args.main.now) (g.S.Source.meaning c.args.source.now) in
    let p = err_from_is_err_and c.from_residual.result c.from_residual.ensures.1 in
    rw (p.1, p.2)
    (not_begun w (g.S.Source.lawful c.args.source.now) c.args.ceilings.now c.requires.apart c.in_err-write_offers.field-0.0 (sheet_of c.args.sheet.now) (sheet_of c.write_offers.new.sheet) c.requires.begun
    c.in_err-write_offers.ensures.value)
