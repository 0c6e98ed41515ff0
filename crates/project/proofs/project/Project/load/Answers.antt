-- The manifest is taken over, or nothing is. Assumes nothing.
use Rattle.std.proofs.Common.{ap, ◌∙◌}
use Rattle.std.proofs.lemmas.Result.{err_from_is_err_and}
use Rattle.rules.specs.Calls.{does, accepts}
use Rattle.modules.specs.Tables.{exclusion_names}
use Rattle.modules.specs.declared.exclusions.Exclusions.{Exclusions}
use Rattle.project.specs.Projects.{state_of}
use Rattle.project.specs.States.{main_state}
use Rattle.project.proofs.project.Project.load.Goals as goal

pub returns-clause-value : goal.returns-clause-value
unfolding does
returns-clause-value g c = ap (λ (e : Exclusions). accepts (main_state c.in_ok-loaded.loaded.main (exclusion_names e))) c.replace_exclusions.ensures.after ∙ c.in_ok-loaded.ensures.value (state_of c.args.self.now)

pub returns-in_err-loaded-clause-value : goal.returns-in_err-loaded-clause-value
unfolding does
returns-in_err-loaded-clause-value g c = let p = err_from_is_err_and c.from_residual.result c.from_residual.ensures.1 in rw (p.1, p.2) (c.in_err-loaded.ensures.value (state_of c.args.self.now))
