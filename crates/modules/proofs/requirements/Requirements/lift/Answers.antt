-- The row is changed in a copy; its path stays, so that the table ascends as it did. Assumes nothing.
use Rattle.std.proofs.Common.{◌≡◌, map, length, set, ap, ◌∙◌}
use Rattle.names.specs.Paths.{plain_path_order}
use Rattle.modules.specs.Rows.{row_path}
use Rattle.ordered.specs.Held.{held}
use Rattle.modules.proofs.Raises.{ascending_keys, keys_set, lifted}
use Rattle.modules.proofs.requirements.Requirements.lift.Goals as goal

written : (c : goal.After-with_items-self) → held c.with_items-self.result ≡ set (held c.args.self.now.table) c.args.at c.args.row
written c =
    let t = held c.args.self.now.table in
    c.with_items-self.ensures.value
    ∙ lifted c.items-rows.result t (length t) c.args.at c.index-rows-at.result c.args.row c.lift.new.self c.items-rows.ensures.items c.requires.0 c.requires.0 c.requires.1 c.lift.ensures.after

pub invariant_of-self-clause-ascending : goal.invariant_of-self-clause-ascending
invariant_of-self-clause-ascending c =
    let t = held c.args.self.now.table in
    ascending_keys row_path plain_path_order t (held c.with_items-self.result)
    (ap (map row_path) (written c) ∙ keys_set row_path plain_path_order t c.args.at c.args.row c.requires.0 c.requires.1) c.args.self.now.ascending

pub returns : goal.returns
returns c =
    let t = held c.args.self.now.table in
    record {
      after = c.with_items-self.ensures.value
          ∙ lifted c.items-rows.result t (length t) c.args.at c.index-rows-at.result c.args.row c.lift.new.self c.items-rows.ensures.items c.requires.0 c.requires.0 c.requires.1 c.lift.ensures.after;
    }
