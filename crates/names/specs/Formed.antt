-- The bytes of a text of a kind, and its order by the order of its kind. Assumes nothing.
use Rattle.std.specs.declared.cmp.Ordering.{Ordering}
use Rattle.rules.specs.Orders.{Bytes}
use Rattle.names.specs.Texts.{text_bytes}
use Rattle.names.specs.declared.grammar.Grammar.{Ghosts}
use Rattle.names.specs.declared.formed.Plain.{Plain}
use Rattle.names.specs.declared.formed.Formed.{Formed}

module _ {G : Type 0} where
  abbrev pub plain_bytes : Plain G → Bytes
  plain_bytes p = text_bytes p.text

  abbrev pub plain_order : (Bytes → Bytes → Ordering) → Plain G → Plain G → Ordering
  plain_order order p q = order (plain_bytes p) (plain_bytes q)

  module _ {g : Ghosts G} where
    abbrev pub formed_bytes : Formed G g → Bytes
    formed_bytes f = plain_bytes f.plain

    abbrev pub formed_order : (Bytes → Bytes → Ordering) → Formed G g → Formed G g → Ordering
    formed_order order f h = plain_order order f.plain h.plain
