use Rattle.std.proofs.Common.{sym, ◌∙◌, ap₂}
use Rattle.rules.specs.Versions.{identifier_order}
use Rattle.names.proofs.Words.{cmp_dictionary}
use Rattle.versions.proofs.Spelling.{as_word}
use Rattle.versions.proofs.kinds.compare_pieces.Goals as goal

pub returns-in-false-false : goal.returns-in-false-false
returns-in-false-false c =
    λ t u. cmp_dictionary c.args.a.now c.args.b.now c.cmp.result c.cmp.ensures
    ∙ sym (ap₂ identifier_order (as_word c.args.a.now t (sym c.in-false-false.ensures)) (as_word c.args.b.now u (sym c.in-false-false.ensures')))
