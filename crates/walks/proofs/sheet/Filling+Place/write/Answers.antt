-- A row on the main path is left out. Assumes nothing.
use Rattle.std.proofs.Common.{length, sym, ap, arith}
use Rattle.names.specs.Paths.{path_bytes}
use Rattle.modules.specs.Rows.{row_names}
use Rattle.walks.specs.Sheets.{sheet_of}
use Rattle.walks.proofs.Fillings.{sheet_short}
use Rattle.walks.proofs.Telling.{ends_room}
use Rattle.walks.proofs.Writing.{one, one_main}
use Rattle.walks.proofs.sheet.Filling+Place.write.Goals as goal

pub returns-else-not-is_on-clause-value : goal.returns-else-not-is_on-clause-value
returns-else-not-is_on-clause-value c =
    let s = sheet_of c.args.self.now in
    let main = path_bytes c.args.main.now in
    let x = row_names c.args.row in
    let e = one_main main c.args.from x s (sym c.if-not-is_on.ensures.value) in
    ends_room (one main c.args.from x s) s tt (omega (arith, ap length e, sheet_short c.args.self.now)) (sym e)
