-- The start is written and the walk goes on, or there is no room for it. Assumes nothing.
use Rattle.std.proofs.Common.{map}
use Rattle.std.proofs.lemmas.Result.{err_from_is_err_and}
use Rattle.names.specs.Paths.{path_bytes}
use Rattle.modules.specs.Rows.{names_of}
use Rattle.walks.specs.Sheets.{sheet_of}
use Rattle.walks.specs.Views.{seen_by}
use Rattle.walks.proofs.Telling.{ends_by}
use Rattle.walks.proofs.Starting.{formed_names, starts_on, starts_over}
use Rattle.walks.proofs.walk.walk.Goals as goal

pub walk_on-requires-clause-begun : goal.walk_on-requires-clause-begun
walk_on-requires-clause-begun g c =
    let w = seen_by (path_bytes c.args.main.now) (g.S.Source.meaning c.args.source.now) in
    let (one, formed, e) = starts_on w (map names_of c.args.start.now) (sheet_of c.args.sheet.now) c.requires.begun (sheet_of c.write_all.new.self) (formed_names c.args.start.now) c.in_ok-write_all.ensures.value in
    one

pub walk_on-requires-clause-formed : goal.walk_on-requires-clause-formed
walk_on-requires-clause-formed g c =
    let w = seen_by (path_bytes c.args.main.now) (g.S.Source.meaning c.args.source.now) in
    let (one, formed, e) = starts_on w (map names_of c.args.start.now) (sheet_of c.args.sheet.now) c.requires.begun (sheet_of c.write_all.new.self) (formed_names c.args.start.now) c.in_ok-write_all.ensures.value in
    formed

pub returns-clause-value : goal.returns-clause-value
returns-clause-value g c =
    let w = seen_by (path_bytes c.args.main.now) (g.S.Source.meaning c.args.source.now) in
    let (one, formed, e) = starts_on w (map names_of c.args.start.now) (sheet_of c.args.sheet.now) c.requires.begun (sheet_of c.write_all.new.self) (formed_names c.args.start.now) c.in_ok-write_all.ensures.value in
    ends_by _ _ c.walk_on.result (sheet_of c.walk_on.new.sheet) e c.walk_on.ensures.value

pub returns-in_err-write_all-clause-value : goal.returns-in_err-write_all-clause-value
returns-in_err-write_all-clause-value g c =
    let w = seen_by (path_bytes c.args.main.now) (g.S.Source.meaning c.args.source.now) in
    let p = err_from_is_err_and c.from_residual.result c.from_residual.ensures.1 in
    rw (p.1, p.2) (starts_over w (map names_of c.args.start.now) (sheet_of c.args.sheet.now) c.requires.begun (sheet_of c.write_all.new.self) c.in_err-write_all.field-0.0 c.in_err-write_all.ensures.value)
