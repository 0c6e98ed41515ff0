-- The version is over the ceiling. Assumes nothing.
use Rattle.std.proofs.Common.{Bool, cond, [], ◌∷◌, length, sym, ap, arith}
use Rattle.rules.specs.Names.{at}
use Rattle.rules.specs.Walks.{written}
use Rattle.versions.specs.Values.{plain_version_bytes}
use Rattle.modules.specs.Rows.{row_names}
use Rattle.walks.specs.Sheets.{sheet_of}
use Rattle.walks.proofs.Fillings.{sheet_short}
use Rattle.walks.proofs.Telling.{ends_room}
use Rattle.lowers.proofs.Offering.{part}
use Rattle.lowers.proofs.offers.write_version.Goals as goal

pub returns-else-is_under-clause-value : goal.returns-else-is_under-clause-value
returns-else-is_under-clause-value c =
    let s = sheet_of c.args.sheet.now in
    let x = at (row_names c.args.ceiling.now).path (plain_version_bytes c.args.version) in
    let e = ap (λ (b : Bool). written 0 (cond b (x ∷ []) []) s) c.if-is_under.ensures.value in
    ends_room (written 0 (part (row_names c.args.ceiling.now) (plain_version_bytes c.args.version)) s) s tt (omega (arith, ap length (sym e), sheet_short c.args.sheet.now)) e
