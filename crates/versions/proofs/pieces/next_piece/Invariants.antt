use Rattle.std.proofs.Common.{◌≡◌, true, take}
use Rattle.rules.specs.Texts.{every}
use Rattle.versions.specs.Cuts.{within}
use Rattle.versions.proofs.pieces.next_piece.Given as goal

abbrev pub invariant-loop-i : goal.invariant-loop-i
invariant-loop-i l = every (within l.part) (take l.i l.text) ≡ true
