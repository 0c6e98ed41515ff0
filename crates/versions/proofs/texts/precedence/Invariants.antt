use Rattle.std.proofs.Common.{◌≡◌, true, length}
use Rattle.rules.specs.Versions.{is_version, version_order}
use Rattle.versions.proofs.Ranks.{order_left, sound}
use Rattle.versions.proofs.texts.precedence.Given as goal

abbrev pub invariant-loop-unequal : goal.invariant-loop-unequal
invariant-loop-unequal l =
    is_version l.a ≡ true → is_version l.b ≡ true → (sound l.part l.left ≡ true) × (sound l.part l.right ≡ true) × (order_left l.part l.left l.right ≡ version_order l.a l.b)

abbrev pub decreases-loop-unequal : goal.decreases-loop-unequal
decreases-loop-unequal l = length l.left
