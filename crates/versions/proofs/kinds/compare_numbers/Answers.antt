use Rattle.std.proofs.Common.{length, ◌∙◌}
use Rattle.std.proofs.lemmas.Cmp.{ranked}
use Rattle.names.proofs.Words.{cmp_dictionary}
use Rattle.versions.proofs.Numbers.{numbers_ordered}
use Rattle.versions.proofs.kinds.compare_numbers.Goals as goal

pub returns : goal.returns
returns c =
    let a = c.args.a.now in
    let b = c.args.b.now in
    λ t u. c.then.ensures ∙ numbers_ordered a b t u c.cmp.result c.cmp-2.result (ranked (length a) (length b) c.cmp.result c.cmp.ensures) (cmp_dictionary a b c.cmp-2.result c.cmp-2.ensures)
