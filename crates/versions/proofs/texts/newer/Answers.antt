use Rattle.std.proofs.Common.{sym, ap, ◌∙◌}
use Rattle.std.specs.Ordering.{is_lt}
use Rattle.std.proofs.lemmas.Bool.{cond-true, cond-false}
use Rattle.rules.specs.Versions.{is_newer}
use Rattle.versions.proofs.Others.{other_not_newer, newer_than_other, newer_version}
use Rattle.versions.proofs.texts.newer.Goals as goal

pub returns-then-not-is_version : goal.returns-then-not-is_version
returns-then-not-is_version c =
    let a = c.args.a in
    let b = c.args.b in
    sym (cond-false (is_newer b.now a.now) b a (other_not_newer a.now b.now (sym c.if-not-is_version.ensures)))

pub returns-then-not-is_version-2 : goal.returns-then-not-is_version-2
returns-then-not-is_version-2 c =
    let a = c.args.a in
    let b = c.args.b in
    sym (cond-true (is_newer b.now a.now) b a (newer_than_other a.now b.now (sym c.if-not-is_version-2.ensures) (sym c.if-not-is_version.ensures)))

pub returns-then-is_lt : goal.returns-then-is_lt
returns-then-is_lt c =
    let a = c.args.a in
    let b = c.args.b in
    let t = sym c.if-not-is_version-2.ensures in
    let u = sym c.if-not-is_version.ensures in
    let e = newer_version a.now b.now t u in
    sym (cond-true (is_newer b.now a.now) b a (e ∙ ap is_lt (sym (c.precedence.ensures t u)) ∙ sym c.if-is_lt.ensures))

pub returns-else-is_lt : goal.returns-else-is_lt
returns-else-is_lt c =
    let a = c.args.a in
    let b = c.args.b in
    let t = sym c.if-not-is_version-2.ensures in
    let u = sym c.if-not-is_version.ensures in
    let e = newer_version a.now b.now t u in
    sym (cond-false (is_newer b.now a.now) b a (e ∙ ap is_lt (sym (c.precedence.ensures t u)) ∙ sym c.if-is_lt.ensures))
