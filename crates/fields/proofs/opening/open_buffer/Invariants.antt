-- What is left is opened as the whole is. Assumes nothing.
use Rattle.std.proofs.Common.{◌≡◌, ◌≤◌, length}
use Rattle.fields.specs.Openings.{opened}
use Rattle.fields.proofs.Openings.{left}
use Rattle.fields.proofs.opening.open_buffer.Given as goal

abbrev pub invariant-loop-rest : goal.invariant-loop-rest
invariant-loop-rest g l =
    (length l.rest ≤ length l.bytes)
    × (opened g.N.Next.follow g.N.Next.ends l.initial.next l.bytes ≡ left g.N.Next.follow g.N.Next.ends l.next (length l.bytes) l.rest)

abbrev pub decreases-loop-rest : goal.decreases-loop-rest
decreases-loop-rest g l = length l.rest
