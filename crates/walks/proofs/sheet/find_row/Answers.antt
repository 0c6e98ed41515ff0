-- The first place whose row is the one that is looked for. Assumes nothing.
use Rattle.std.proofs.Common.{◌∙◌, rules, tests}
use Rattle.std.proofs.lemmas.Iterator.{YieldsList-from_slice}
use Rattle.std.proofs.lemmas.Iterator.Search.{position_from_yields_List}
use Rattle.modules.specs.Rows.{row_names}
use Rattle.walks.proofs.Writing.{is_there, place_is}
use Rattle.walks.proofs.sheet.find_row.Goals as goal

pub returns : goal.returns
returns c =
    let e = position_from_yields_List (is_there (row_names c.args.row.now)) _ _ _ c.position.ensures.ran (YieldsList-from_slice c.args.sheet.now cc) (λ x b q k. search (rules, tests)) ∙ place_is (row_names c.args.row.now) c.args.sheet.now in
    record { value = search (rules, tests, e) }
