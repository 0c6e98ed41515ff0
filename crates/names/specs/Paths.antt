-- Paths as values, their bytes, and their order. Assumes nothing.
use Rattle.std.specs.declared.cmp.Ordering.{Ordering}
use Rattle.rules.specs.Orders.{Bytes}
use Rattle.rules.specs.Paths.{path_order}
use Rattle.names.specs.Formed.{plain_bytes, formed_bytes, plain_order, formed_order}
use Rattle.names.specs.contracts.path.kind.PathsGrammar.TheImpl.{ghosts}
use Rattle.names.specs.declared.path.Paths.{Paths}
use Rattle.names.specs.declared.formed.Plain.{Plain}
use Rattle.names.specs.declared.formed.Formed.{Formed}

abbrev pub PlainPath : Type 0
PlainPath = Plain Paths

abbrev pub Path : Type 0
Path = Formed Paths ghosts

abbrev pub plain_path_bytes : PlainPath → Bytes
plain_path_bytes = plain_bytes

abbrev pub path_bytes : Path → Bytes
path_bytes = formed_bytes

abbrev pub plain_path_order : PlainPath → PlainPath → Ordering
plain_path_order = plain_order path_order

abbrev pub path_value_order : Path → Path → Ordering
path_value_order = formed_order path_order
