-- A row is added, or why it is not is told. Assumes nothing.
use Rattle.std.proofs.Common.{sym, ap, ◌∙◌}
use Rattle.rules.specs.Manifests.{obeyed}
use Rattle.lexer.specs.Told.{directive_told}
use Rattle.manifest.specs.Rows.{rows_read, row_added}
use Rattle.manifest.specs.Views.{view}
use Rattle.manifest.proofs.Added.{grown, requiring, excluding, required_told, excluded_told, added_as}
use Rattle.manifest.proofs.kinds.Progress.obey.Goals as goal

pub returns-in-Require-clause-value : goal.returns-in-Require-clause-value
returns-in-Require-clause-value c =
    let p = c.args.self.now in
    let required = c.args.required.now in
    let excluded = c.args.excluded.now in
    let told = view p required excluded in
    required_told p c.add.new.self excluded c.add.result ∙ ap (grown (requiring told)) c.add.ensures.value
    ∙ added_as required.most (rows_read required) (requiring told) c.in-Require.path.now c.in-Require.version.now
    ∙ sym (ap (λ d. obeyed required.most told (directive_told d)) c.in-Require.is)

pub returns-in-Exclude-clause-value : goal.returns-in-Exclude-clause-value
returns-in-Exclude-clause-value c =
    let p = c.args.self.now in
    let required = c.args.required.now in
    let excluded = c.args.excluded.now in
    let told = view p required excluded in
    let m = c.in-Exclude.path.now in
    let v = c.in-Exclude.version.now in
    excluded_told p required c.add-in-Exclude.new.self c.add-in-Exclude.result ∙ ap (grown (excluding told)) c.add-in-Exclude.ensures.value
    ∙ ap (λ n. grown (excluding told) (row_added n (rows_read excluded) m v)) c.requires.few
    ∙ added_as 32 (rows_read excluded) (excluding told) m v ∙ sym (ap (λ d. obeyed required.most told (directive_told d)) c.in-Exclude.is)
