-- The bytes that a text holds. Assumes nothing.
use Rattle.std.specs.Prelude.{take}
use Rattle.rules.specs.Orders.{Bytes}
use Rattle.names.specs.declared.text.Text.{Text}

abbrev pub text_bytes : Text → Bytes
text_bytes t = take t.len t.bytes
