use Rattle.std.proofs.Common.{map, refl, ap, ◌∙◌}
use Rattle.std.specs.Option.{option_map}
use Rattle.names.specs.Paths.{plain_path_bytes, plain_path_order}
use Rattle.rules.specs.Paths.{path_order}
use Rattle.rules.specs.Rows.{path_of}
use Rattle.rules.proofs.Tables.{map_lookup, map_removed}
use Rattle.modules.specs.Rows.{row_names, row_path}
use Rattle.ordered.specs.Held.{held}
use Rattle.modules.proofs.Kept.{same_requirements}
use Rattle.modules.proofs.requirements.Requirements.remove.Goals as goal

pub returns : goal.returns
returns c =
    let t = held c.args.self.now.table in
    let p = c.args.path.now in
    record {
      value = ap (option_map row_names) c.remove.ensures.value ∙ map_lookup row_path plain_path_order path_of path_order row_names p (plain_path_bytes p) (λ y. refl) t;
      after = ap (map row_names) c.remove.ensures.after ∙ map_removed row_path plain_path_order path_of path_order row_names p (plain_path_bytes p) (λ y. refl) t;
      same = λ no. same_requirements _ _ (c.remove.ensures.same no);
    }
