-- The test of each row is that it stands above the version. Assumes nothing.
use Rattle.std.proofs.Common.{Bool, ◌&&◌, ◌∙◌, rules, tests}
use Rattle.std.specs.Ordering.{is_lt}
use Rattle.std.proofs.lemmas.Iterator.{YieldsList-from_slice}
use Rattle.std.proofs.lemmas.Iterator.Search.{any_from_yields_List}
use Rattle.rules.specs.Versions.{version_order}
use Rattle.rules.specs.Names.{ModuleVersion, same_path}
use Rattle.names.specs.Paths.{path_bytes}
use Rattle.versions.specs.Values.{version_bytes}
use Rattle.modules.specs.Rows.{row_names}
use Rattle.lowers.proofs.Looking.{some_is}
use Rattle.lowers.proofs.ceilings.uses.can_lower.Goals as goal

pub returns : goal.returns
returns c =
    let test : ModuleVersion → Bool = λ x. same_path x (path_bytes c.args.path.now) && is_lt (version_order (version_bytes c.args.version.now) x.version) in
    record {
      value = any_from_yields_List (λ x. test (row_names x)) _ _ _ c.any.ensures.ran (YieldsList-from_slice c.args.rows.now cc) (λ x b q k. search (rules, tests)) ∙ some_is test c.args.rows.now;
    }
