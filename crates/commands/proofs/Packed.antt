-- How long a packed file is. Assumes nothing.
use Rattle.std.proofs.Common.{◌≡◌, ◌+◌, length, arith}
use Rattle.std.proofs.lemmas.List.{length-append}
use Rattle.rules.specs.Orders.{Bytes}
use Rattle.fields.specs.Samples.{field}
use Rattle.tree.specs.Grammar.{tag_B}
use Rattle.commands.specs.Packing.{file}

pub file_length : (name body : Bytes) → length (file name body) ≡ length name + length body + 6
file_length name body = omega (arith, length-append name (field tag_B body))
