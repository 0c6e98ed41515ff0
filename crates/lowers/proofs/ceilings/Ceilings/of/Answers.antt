-- What is known of rows is known of the ceilings over them. Assumes nothing.
use Rattle.std.proofs.Common.{◌≡◌, true, List, sym, subst}
use Rattle.rules.specs.Texts.{every}
use Rattle.rules.specs.Paths.{is_path, path_order}
use Rattle.rules.specs.Names.{ModuleVersion}
use Rattle.rules.specs.Rows.{path_of}
use Rattle.ordered.specs.Ascents.{is_ascending}
use Rattle.names.specs.Paths.{path_bytes}
use Rattle.versions.specs.Values.{version_bytes}
use Rattle.modules.specs.Rows.{row_names}
use Rattle.std.proofs.Common.{map}
use Rattle.lowers.proofs.Looking.{over_formed, over_ascending}
use Rattle.lowers.proofs.ceilings.Ceilings.of.Goals as goal

pub invariant_of-result : goal.invariant_of-result
invariant_of-result c =
    let p = path_bytes c.args.path.now in
    let v = version_bytes c.args.version.now in
    let xs = map row_names c.args.rows.now in
    let e = sym c.ceilings_over-rows.ensures.value in
    record {
      formed = subst (λ (cs : List ModuleVersion). every (λ x. is_path x.path) cs ≡ true) e (over_formed p v xs c.requires.formed);
      ascending = subst (λ (cs : List ModuleVersion). is_ascending path_of path_order cs ≡ true) e (over_ascending p v xs c.requires.ascending);
    }
