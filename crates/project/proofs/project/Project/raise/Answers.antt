-- As the main module does. Assumes nothing.
use Rattle.rules.specs.Calls.{does}
use Rattle.modules.specs.Tables.{exclusion_names}
use Rattle.project.proofs.project.Project.raise.Goals as goal

pub returns-clause-value : goal.returns-clause-value
unfolding does
returns-clause-value g c = c.raise.ensures.value (exclusion_names c.args.self.now.layer.exclusions)
