-- The rows stay well formed. Assumes nothing.
use Rattle.std.proofs.Common.{ap, ◌∙◌}
use Rattle.rules.specs.Names.{is_module_version}
use Rattle.rules.specs.Texts.{every}
use Rattle.names.specs.Paths.{plain_path_bytes}
use Rattle.modules.specs.Tables.{requirement_names}
use Rattle.project.proofs.Formed.{formed_without}
use Rattle.project.proofs.main_module.MainModule.drop_row.Goals as goal

pub invariant_of-self : goal.invariant_of-self
invariant_of-self c =
    let t = c.args.self.now.requirements in
    record { formed = ap (every is_module_version) c.remove.ensures.after ∙ formed_without (plain_path_bytes c.plain.result) (requirement_names t) c.args.self.now.formed }
