-- What is read so far, and what is left, are what is written. Assumes nothing.
use Rattle.std.proofs.Common.{◌≡◌, ◌++◌, length}
use Rattle.std.specs.Option.{option_map}
use Rattle.tree.specs.Escapes.{unescaped}
use Rattle.tree.proofs.escapes.read_text.Given as goal

abbrev pub invariant-loop-letter : goal.invariant-loop-letter
invariant-loop-letter l = unescaped l.bytes ≡ option_map (λ t. l.text.items ++ t) (unescaped l.rest)

abbrev pub decreases-loop-letter : goal.decreases-loop-letter
decreases-loop-letter l = length l.rest
