use Rattle.std.proofs.Common.{is_some, refl, ap, ◌∙◌}
use Rattle.rules.specs.Names.{module_order}
use Rattle.rules.specs.Rows.{own}
use Rattle.rules.specs.Tables.{lookup}
use Rattle.rules.proofs.Tables.{map_lookup}
use Rattle.modules.specs.Rows.{row_names, row_order}
use Rattle.ordered.specs.Held.{held}
use Rattle.modules.proofs.Lifted.{some_map}
use Rattle.modules.proofs.exclusions.Exclusions.has.Goals as goal

pub returns : goal.returns
returns c =
    let t = held c.args.self.now.table in
    let x = c.args.row.now in
    c.is_some.ensures ∙ some_map (λ y. y.now) c.lookup.result ∙ ap is_some c.lookup.ensures.value ∙ some_map row_names (lookup own row_order x t)
    ∙ ap is_some (map_lookup own row_order own module_order row_names x (row_names x) (λ y. refl) t)
