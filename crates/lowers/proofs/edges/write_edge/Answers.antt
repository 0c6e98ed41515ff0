-- On the main path, or written. Assumes nothing.
use Rattle.std.proofs.Common.{List, [], ◌∷◌, length, sym, ap, subst, arith}
use Rattle.rules.specs.Names.{ModuleVersion}
use Rattle.rules.specs.Walks.{module_versions}
use Rattle.rules.proofs.Sheets.{length_module_versions}
use Rattle.names.specs.Paths.{path_bytes}
use Rattle.modules.specs.Rows.{row_names}
use Rattle.walks.specs.Sheets.{sheet_of}
use Rattle.walks.proofs.Fillings.{sheet_short}
use Rattle.walks.proofs.Telling.{ends_room}
use Rattle.walks.proofs.Writing.{one, one_main}
use Rattle.lowers.specs.declared.learned.Edge.{Edge}
use Rattle.lowers.specs.Learned.{edges_in, Edged}
use Rattle.lowers.proofs.Edging.{nth_within, edged_one, off_off}
use Rattle.lowers.proofs.edges.write_edge.Goals as goal

pub returns-else-not-is_on-clause-value : goal.returns-else-not-is_on-clause-value
returns-else-not-is_on-clause-value c =
    let s = sheet_of c.args.sheet.now in
    let main = path_bytes c.args.main.now in
    let x = row_names c.args.row in
    let e = one_main main c.args.at x s (sym c.if-not-is_on.ensures.value) in
    ends_room (one main c.args.at x s) s tt (omega (arith, ap length e, sheet_short c.args.sheet.now)) (sym e)

pub add-requires-clause-places : goal.add-requires-clause-places
add-requires-clause-places c =
    let s = sheet_of c.note.new.self in
    (c.requires.place, omega (arith, nth_within (module_versions s) c.in_ok-to.to (row_names c.args.row) c.in_ok-to.ensures.place, length_module_versions s, sheet_short c.note.new.self))

pub returns-in_ok-to-clause-edges : goal.returns-in_ok-to-clause-edges
returns-in_ok-to-clause-edges c =
    let main = path_bytes c.args.main.now in
    let x = row_names c.args.row in
    let es = edges_in c.args.learned.now in
    let t = module_versions (sheet_of c.note.new.self) in
    subst (λ (xs : List ModuleVersion). Edged c.args.at es xs t (edges_in c.add.new.self)) (off_off main x c.if-not-is_on.ensures.value)
    (subst (λ (ds : List Edge). Edged c.args.at es (x ∷ []) t ds) (sym c.add.ensures.edges) (edged_one c.args.at es t x c.in_ok-to.to c.in_ok-to.ensures.place))
