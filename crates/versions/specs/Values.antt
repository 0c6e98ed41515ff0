-- Versions as values, their bytes, and their order. Assumes nothing.
use Rattle.std.specs.declared.cmp.Ordering.{Ordering}
use Rattle.rules.specs.Orders.{Bytes}
use Rattle.rules.specs.Versions.{version_order}
use Rattle.names.specs.Formed.{plain_bytes, formed_bytes, plain_order, formed_order}
use Rattle.names.specs.declared.formed.Plain.{Plain}
use Rattle.names.specs.declared.formed.Formed.{Formed}
use Rattle.versions.specs.contracts.version.kind.VersionsGrammar.TheImpl.{ghosts}
use Rattle.versions.specs.declared.version.Versions.{Versions}

abbrev pub PlainVersion : Type 0
PlainVersion = Plain Versions

abbrev pub Version : Type 0
Version = Formed Versions ghosts

abbrev pub plain_version_bytes : PlainVersion → Bytes
plain_version_bytes = plain_bytes

abbrev pub version_bytes : Version → Bytes
version_bytes = formed_bytes

abbrev pub plain_version_order : PlainVersion → PlainVersion → Ordering
plain_version_order = plain_order version_order

abbrev pub version_value_order : Version → Version → Ordering
version_value_order = formed_order version_order
