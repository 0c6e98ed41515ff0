use Rattle.std.proofs.Common.{ltb, map, length, is_ok, sym, refl, ap, ◌∙◌}
use Rattle.names.specs.Paths.{plain_path_bytes, plain_path_order}
use Rattle.rules.specs.Paths.{path_order}
use Rattle.rules.specs.Rows.{path_of, higher, row_of}
use Rattle.rules.specs.Tables.{keep}
use Rattle.rules.proofs.Tables.{map_entered}
use Rattle.modules.specs.Rows.{row_names, row_path}
use Rattle.ordered.specs.Held.{held}
use Rattle.modules.proofs.Kept.{same_requirements}
use Rattle.modules.proofs.Lifted.{admitted_named, accepted_absent, entered_fresh}
use Rattle.modules.proofs.requirements.Requirements.add.Goals as goal

pub returns : goal.returns
returns c =
    let t = held c.args.self.now.table in
    let x = c.args.row in
    let p = plain_path_bytes x.path in
    let v = admitted_named row_path plain_path_order path_of path_order row_names 256 x.path p (λ y. refl) t c.insert.result c.insert.ensures.value in
    record {
      value = v;
      after = λ ok.
          let absent = accepted_absent (row_of p (map row_names t)) (ltb (length (map row_names t)) 256) (ap is_ok (sym v) ∙ ok) in
          ap (map row_names) (c.insert.ensures.after ok)
          ∙ map_entered row_path plain_path_order path_of path_order row_names (λ a b. refl) keep keep (λ a b. refl) x t
          ∙ entered_fresh path_of path_order keep higher (row_names x) (map row_names t) absent;
      refused = λ no. same_requirements _ _ (c.insert.ensures.refused no);
    }
