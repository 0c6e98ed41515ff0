use Rattle.std.proofs.Common.{refl, ap, ◌∙◌}
use Rattle.std.specs.Option.{option_map}
use Rattle.names.specs.Paths.{plain_path_bytes, plain_path_order}
use Rattle.rules.specs.Paths.{path_order}
use Rattle.rules.specs.Rows.{path_of}
use Rattle.rules.proofs.Tables.{map_lookup}
use Rattle.modules.specs.Rows.{row_names, row_path}
use Rattle.ordered.specs.Held.{held}
use Rattle.modules.proofs.Lifted.{mapped_twice}
use Rattle.modules.proofs.requirements.Requirements.row.Goals as goal

pub returns : goal.returns
returns c =
    let t = held c.args.self.now.table in
    let p = c.args.path.now in
    mapped_twice (λ y. y.now) row_names c.lookup.result ∙ ap (option_map row_names) c.lookup.ensures.value
    ∙ map_lookup row_path plain_path_order path_of path_order row_names p (plain_path_bytes p) (λ y. refl) t
