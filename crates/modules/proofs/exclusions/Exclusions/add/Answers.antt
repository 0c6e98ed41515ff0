use Rattle.std.proofs.Common.{map, refl, ap, ◌∙◌}
use Rattle.rules.specs.Names.{module_order}
use Rattle.rules.specs.Rows.{own}
use Rattle.rules.specs.Tables.{keep}
use Rattle.rules.proofs.Tables.{map_entered}
use Rattle.modules.specs.Rows.{row_names, row_order}
use Rattle.ordered.specs.Held.{held}
use Rattle.modules.proofs.Kept.{same_exclusions}
use Rattle.modules.proofs.Lifted.{admitted_named}
use Rattle.modules.proofs.exclusions.Exclusions.add.Goals as goal

pub returns : goal.returns
returns c =
    let t = held c.args.self.now.table in
    let x = c.args.row in
    record {
      value = admitted_named own row_order own module_order row_names 32 x (row_names x) (λ y. refl) t c.insert.result c.insert.ensures.value;
      after = λ ok. ap (map row_names) (c.insert.ensures.after ok) ∙ map_entered own row_order own module_order row_names (λ a b. refl) keep keep (λ a b. refl) x t;
      refused = λ no. same_exclusions _ _ (c.insert.ensures.refused no);
    }
