use Rattle.std.proofs.Common.{sym, ◌∙◌}
use Rattle.rules.proofs.Order.{no_version_below}
use Rattle.names.proofs.Words.{cmp_dictionary}
use Rattle.versions.proofs.Others.{version_above, others_by_bytes}
use Rattle.versions.proofs.texts.compare.Goals as goal

pub returns-in-true-false : goal.returns-in-true-false
returns-in-true-false c = sym (version_above c.args.a.now c.args.b.now (sym c.in-true-false.ensures) (sym c.in-true-false.ensures'))

pub returns-in-false-true : goal.returns-in-false-true
returns-in-false-true c = sym (no_version_below c.args.a.now c.args.b.now (sym c.in-false-true.ensures) (sym c.in-false-true.ensures'))

pub returns-in-false-false : goal.returns-in-false-false
returns-in-false-false c =
    let a = c.args.a.now in
    let b = c.args.b.now in
    cmp_dictionary a b c.cmp.result c.cmp.ensures ∙ sym (others_by_bytes a b (sym c.in-false-false.ensures) (sym c.in-false-false.ensures'))
