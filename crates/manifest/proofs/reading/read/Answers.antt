-- What is read is well formed. Assumes nothing.
use Rattle.std.proofs.Common.{length, IfOk, subst}
use Rattle.std.proofs.lemmas.Bool.{cond-true, le-leb}
use Rattle.rules.specs.Lines.{lines}
use Rattle.rules.specs.Manifests.{unbegun, lines_read, WellFormed}
use Rattle.manifest.specs.Outcomes.{manifest_in}
use Rattle.manifest.proofs.Formed.{formed_if}
use Rattle.manifest.proofs.reading.read.Goals as goal

pub returns-else-is_err-clause-formed : goal.returns-else-is_err-clause-formed
returns-else-is_err-clause-formed c =
    let most = c.most-most.result in
    let text = c.args.text.now in
    let read = c.read_text-manifest in
    let rs = read.new.required in
    let es = read.new.excluded in
    subst (λ n. IfOk read.result (λ m. WellFormed n (manifest_in rs es m))) c.most-most.ensures.value
    (formed_if most text c.blank_all.new.rows c.blank_all-2.new.rows rs es (lines_read most 0 unbegun (lines text)) read.result
    (cond-true _ _ _ (le-leb (length text) 32768 c.if-text-gt-LONGEST.false)) read.ensures.value read.ensures.items)
