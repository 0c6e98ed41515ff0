-- What is left of the text is stripped from what is left. Assumes nothing.
use Rattle.std.proofs.Common.{◌≡◌, drop}
use Rattle.tree.specs.Escapes.{escaped}
use Rattle.tree.specs.Filenames.{behind}
use Rattle.tree.proofs.escapes.strip_escaped.Given as goal

abbrev pub invariant-loop-byte : goal.invariant-loop-byte
invariant-loop-byte l = behind (escaped l.text) l.bytes ≡ behind (escaped (drop l.byte-index l.text)) l.rest
