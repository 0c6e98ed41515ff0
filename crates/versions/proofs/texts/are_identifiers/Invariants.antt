use Rattle.std.proofs.Common.{◌≡◌, length}
use Rattle.rules.specs.Texts.{dot, every, pieces}
use Rattle.rules.specs.Versions.{is_identifier}
use Rattle.versions.proofs.texts.are_identifiers.Given as goal

abbrev pub invariant-loop-piece : goal.invariant-loop-piece
invariant-loop-piece l = every is_identifier (pieces dot l.rest) ≡ every is_identifier (pieces dot l.text)

abbrev pub decreases-loop-piece : goal.decreases-loop-piece
decreases-loop-piece l = length l.rest
