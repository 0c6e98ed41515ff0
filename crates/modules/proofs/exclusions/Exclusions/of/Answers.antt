use Rattle.std.proofs.Common.{◌≡◌, List, [], map, refl, ap, ◌∙◌}
use Rattle.std.specs.Option.{option_map}
use Rattle.ordered.specs.Held.{held, fitting}
use Rattle.rules.specs.Names.{module_order}
use Rattle.rules.specs.Rows.{own, exclusion_table}
use Rattle.rules.specs.Tables.{joined}
use Rattle.rules.proofs.Tables.{map_joined}
use Rattle.modules.specs.Rows.{row_names, row_order}
use Rattle.modules.specs.declared.rows.Row.{Row}
use Rattle.modules.proofs.Lifted.{fitting_map}
use Rattle.modules.proofs.exclusions.Exclusions.of.Goals as goal

-- what the rows stand for, entered into a table that is empty
named : (t u : List Row) → map row_names t ≡ [] → option_map (map row_names) (fitting 32 (joined own row_order t u)) ≡ fitting 32 (exclusion_table (map row_names u))
named t u e =
    fitting_map 32 row_names (joined own row_order t u)
    ∙ ap (fitting 32) (map_joined own row_order own module_order row_names (λ a b. refl) t u ∙ ap (λ s. joined own module_order s (map row_names u)) e)

pub returns-in_err-table : goal.returns-in_err-table
returns-in_err-table c =
    rw c.from_residual.ensures (ap (option_map (map row_names)) c.in_err-table.ensures.value ∙ named (held c.new.result.table) c.args.rows.now c.new.ensures)

pub returns : goal.returns
returns c = ap (option_map (map row_names)) c.in_ok-table.ensures.value ∙ named (held c.new.result.table) c.args.rows.now c.new.ensures
