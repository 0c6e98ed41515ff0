-- The place is well formed and under its ceiling; its question brings a list, that it is missing, or another fault. Assumes nothing.
use Rattle.std.proofs.Common.{◌<◌, ◌≤◌, map, length, take, replicate, Ok, Err, sym, refl, arith}
use lib.ListN.{length-replicate}
use Rattle.std.proofs.lemmas.List.{length-map, length-take}
use Rattle.rules.specs.Slices.{blank}
use Rattle.rules.specs.Projects.{off_main}
use Rattle.rules.specs.Walks.{module_versions, ended, done}
use Rattle.rules.proofs.Sheets.{length_module_versions}
use Rattle.names.specs.Paths.{path_bytes}
use Rattle.modules.specs.Rows.{row_names, names_of}
use Rattle.source.specs.Answers.{fault_of}
use Rattle.source.proofs.Telling.{found_told, fault_told}
use Rattle.walks.specs.Sheets.{sheet_of}
use Rattle.walks.specs.Views.{seen_by}
use Rattle.walks.proofs.Fillings.{sheet_short}
use Rattle.walks.proofs.Telling.{ends_by, ends_done}
use Rattle.walks.proofs.Walking.{formed_there, given_there, ends_fault}
use Rattle.lowers.specs.Ceilings.{ceiling_rows}
use Rattle.lowers.proofs.Edging.{off_short, knows_bad}
use Rattle.lowers.proofs.Asking.{here_found, here_missing, here_fault, bad_missing, learned_list}
use Rattle.lowers.proofs.walk.ask_place.Goals as goal

pub write_edges-requires-clause-place : goal.write_edges-requires-clause-place
write_edges-requires-clause-place g c = omega (arith, c.requires.place, sheet_short c.args.sheet.now)

pub unwrap-of-requires : goal.unwrap-of-requires
unwrap-of-requires g c = formed_there (sheet_of c.args.sheet.now) c.args.at c.requires.place.0 c.requires.place.1 c.requires.formed c.module_version.result c.module_version.ensures.value

pub returns-in-Ok-clause-value : goal.returns-in-Ok-clause-value
returns-in-Ok-clause-value g c =
    let i = c.args.at in
    let m = g.S.Source.meaning c.args.source.now in
    let w = seen_by (path_bytes c.args.main.now) m in
    let cs = ceiling_rows c.args.ceilings.now in
    let s = sheet_of c.args.sheet.now in
    let x = names_of c.unwrap-of.result in
    let there = given_there s i c.module_version.result c.unwrap-of.result c.module_version.ensures.value c.unwrap-of.ensures in
    let all : 64 ≤ length (replicate 64 c.blank-rows.result) = omega (arith, length-replicate 64 c.blank-rows.result) in
    let rows = c.requirements.new.rows in
    let a = found_told row_names blank (length (replicate 64 c.blank-rows.result)) c.in-Ok.found.count (m.requirements x) rows all (c.in-Ok.ensures.value, c.in-Ok.ensures.items) in
    ends_by _ _ c.write_edges.result (sheet_of c.write_edges.new.sheet) (here_found w cs i s x there (c.requires.under x there) (map row_names (take c.in-Ok.found.count rows)) a) c.write_edges.ensures.value

pub returns-in-Ok-clause-learned : goal.returns-in-Ok-clause-learned
returns-in-Ok-clause-learned g c =
    let i = c.args.at in
    let m = g.S.Source.meaning c.args.source.now in
    let main = path_bytes c.args.main.now in
    let w = seen_by main m in
    let cs = ceiling_rows c.args.ceilings.now in
    let s = sheet_of c.args.sheet.now in
    let x = names_of c.unwrap-of.result in
    let there = given_there s i c.module_version.result c.unwrap-of.result c.module_version.ensures.value c.unwrap-of.ensures in
    let all : 64 ≤ length (replicate 64 c.blank-rows.result) = omega (arith, length-replicate 64 c.blank-rows.result) in
    let k = c.in-Ok.found.count in
    let rows = c.requirements.new.rows in
    let ys = map row_names (take k rows) in
    let a = found_told row_names blank (length (replicate 64 c.blank-rows.result)) k (m.requirements x) rows all (c.in-Ok.ensures.value, c.in-Ok.ensures.items) in
    let few : length (off_main main ys) ≤ 64 = omega (arith, off_short main ys, length-map (take k rows) row_names, length-take k rows, c.requirements.auto.rows, length-replicate 64 c.blank-rows.result) in
    let in_rows : i < length (module_versions s) = omega (arith, c.requires.place, length_module_versions s) in
    learned_list w cs i s x there (c.requires.under x there) c.args.learned.now c.write_edges.new.learned c.requires.knows in_rows ys a few c.write_edges.ensures.marks
    c.write_edges.result (sheet_of c.write_edges.new.sheet) c.write_edges.ensures.value c.write_edges.ensures.edges

pub returns-in-Err-clause-value : goal.returns-in-Err-clause-value
returns-in-Err-clause-value g c =
    let i = c.args.at in
    let m = g.S.Source.meaning c.args.source.now in
    let w = seen_by (path_bytes c.args.main.now) m in
    let cs = ceiling_rows c.args.ceilings.now in
    let s = sheet_of c.args.sheet.now in
    let short = sheet_short c.args.sheet.now in
    let x = names_of c.unwrap-of.result in
    let there = given_there s i c.module_version.result c.unwrap-of.result c.module_version.ensures.value c.unwrap-of.ensures in
    let all : 64 ≤ length (replicate 64 c.blank-rows.result) = omega (arith, length-replicate 64 c.blank-rows.result) in
    let f = fault_of c.in-Err.fault in
    let a = fault_told row_names blank (length (replicate 64 c.blank-rows.result)) f (m.requirements x) c.requirements.new.rows all (c.in-Err.ensures.value, c.in-Err.ensures.items) in
    ends_by _ (ended done s) (Ok tt) s (here_missing w cs i s x there (c.requires.under x there) short f a (sym c.if-is_missing.ensures.value)) (ends_done s s tt short refl)

pub returns-in-Err-clause-learned : goal.returns-in-Err-clause-learned
returns-in-Err-clause-learned g c =
    let i = c.args.at in
    let m = g.S.Source.meaning c.args.source.now in
    let w = seen_by (path_bytes c.args.main.now) m in
    let cs = ceiling_rows c.args.ceilings.now in
    let s = sheet_of c.args.sheet.now in
    let x = names_of c.unwrap-of.result in
    let all : 64 ≤ length (replicate 64 c.blank-rows.result) = omega (arith, length-replicate 64 c.blank-rows.result) in
    let f = fault_of c.in-Err.fault in
    let a = fault_told row_names blank (length (replicate 64 c.blank-rows.result)) f (m.requirements x) c.requirements.new.rows all (c.in-Err.ensures.value, c.in-Err.ensures.items) in
    let wide : i < length c.args.learned.now.marked = omega (arith, c.args.learned.now.wide, c.requires.place, sheet_short c.args.sheet.now) in
    knows_bad w cs s c.args.learned.now c.mark.new.self i x c.requires.knows (given_there s i c.module_version.result c.unwrap-of.result c.module_version.ensures.value c.unwrap-of.ensures) (bad_missing w cs x f a (sym c.if-is_missing.ensures.value)) wide c.mark.ensures.marks c.mark.ensures.edges

pub returns-in-Err-2-clause-value : goal.returns-in-Err-2-clause-value
returns-in-Err-2-clause-value g c =
    let i = c.args.at in
    let m = g.S.Source.meaning c.args.source.now in
    let w = seen_by (path_bytes c.args.main.now) m in
    let cs = ceiling_rows c.args.ceilings.now in
    let s = sheet_of c.args.sheet.now in
    let x = names_of c.unwrap-of.result in
    let there = given_there s i c.module_version.result c.unwrap-of.result c.module_version.ensures.value c.unwrap-of.ensures in
    let all : 64 ≤ length (replicate 64 c.blank-rows.result) = omega (arith, length-replicate 64 c.blank-rows.result) in
    let f = fault_of c.in-Err.fault in
    let a = fault_told row_names blank (length (replicate 64 c.blank-rows.result)) f (m.requirements x) c.requirements.new.rows all (c.in-Err.ensures.value, c.in-Err.ensures.items) in
    ends_by _ _ (Err c.refused_at.result) s (here_fault w cs i s x there (c.requires.under x there) f a (sym c.if-is_missing.ensures.value))
    (ends_fault i f c.refused_at.result s (sheet_short c.args.sheet.now) c.refused_at.ensures.value)
