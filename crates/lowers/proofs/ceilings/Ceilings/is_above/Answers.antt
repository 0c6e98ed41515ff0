-- The test of each ceiling is that the row is over it. Assumes nothing.
use Rattle.std.proofs.Common.{ap, ◌∙◌, rules, tests, List}
use Rattle.std.proofs.lemmas.Iterator.{YieldsList-from_slice}
use Rattle.std.proofs.lemmas.Iterator.Search.{any_from_yields_List}
use Rattle.rules.specs.Names.{ModuleVersion}
use Rattle.rules.specs.Lowers.{is_above}
use Rattle.modules.specs.Rows.{row_names}
use Rattle.lowers.proofs.Looking.{over, above_is}
use Rattle.lowers.proofs.ceilings.Ceilings.is_above.Goals as goal

pub returns : goal.returns
returns c =
    let x = row_names c.args.row.now in
    let rows = c.as_slice.result.now in
    record {
      value = any_from_yields_List (λ y. over x (row_names y)) _ _ _ c.any.ensures.ran (YieldsList-from_slice rows cc) (λ y b q k. search (rules, tests)) ∙ above_is x rows
          ∙ ap (λ (cs : List ModuleVersion). is_above cs x) c.as_slice.ensures.value;
    }
