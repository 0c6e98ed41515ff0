-- At the start no line is read. Assumes nothing.
use Rattle.std.proofs.Common.{◌≡◌, sym, refl, ap, ◌∙◌, ap₂, rules}
use Rattle.rules.specs.Lines.{lines}
use Rattle.lexer.specs.Lefts.{numbered, lines_ahead}
use Rattle.manifest.specs.Views.{view}
use Rattle.manifest.proofs.Steps.{told_read, read_as_told}
use Rattle.manifest.proofs.kinds.Progress.read_lines.Goals as goal

pub loop-line-init : goal.loop-line-init
loop-line-init c =
    let most = c.args.required.now.most in
    let p = view c.args.self.now c.args.required.now c.args.excluded.now in
    let ls = lines c.args.text.now in
    let new = c.new-line-items in
    let it = c.into_iter-line-iterator.result in
    let begun : it ≡ new.result = search rules in
    let ahead : lines_ahead it ≡ numbered 0 ls = ap lines_ahead begun ∙ ap₂ numbered new.ensures.value new.ensures.items in
    (tt, tt, refl, refl, refl, refl, refl, refl, read_as_told most 0 p ls ∙ ap (told_read most p) (sym ahead))
