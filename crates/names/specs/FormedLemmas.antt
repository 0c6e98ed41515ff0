-- Texts of a kind obey the laws that the order of the kind obeys. Assumes nothing.
use Rattle.std.specs.declared.cmp.Ordering.{Ordering}
use Rattle.std.specs.Prelude.{◌≡◌, Bool, true, false, ◌&&◌}
use Rattle.std.specs.Ordering.{is_eq}
use Rattle.std.specs.Cmp.{IsTotalOrder}
use Rattle.std.specs.Str.{bytes_eq}
use Rattle.rules.specs.Orders.{Bytes, Laws}
use Rattle.names.specs.Compared.{total_order, bytes_tied}
use Rattle.names.specs.Pulled.{pulled}
use Rattle.names.specs.Canon.{same_plain, same_formed}
use Rattle.names.specs.Formed.{plain_bytes, formed_bytes, plain_order, formed_order}
use Rattle.names.specs.declared.grammar.Grammar.{Ghosts}
use Rattle.names.specs.declared.formed.Plain.{Plain}
use Rattle.names.specs.declared.formed.Formed.{Formed}

pub plain_laws : {G : Type 0} {order : Bytes → Bytes → Ordering} → Laws order → Laws (plain_order {G = G} order)
plain_laws {order = order} l = pulled plain_bytes order l same_plain

pub formed_laws : {G : Type 0} {g : Ghosts G} {order : Bytes → Bytes → Ordering} → Laws order → Laws (formed_order {G = G} {g = g} order)
formed_laws {order = order} l = pulled formed_bytes order l same_formed

pub plain_total : {G : Type 0} {order : Bytes → Bytes → Ordering} → Laws order → IsTotalOrder (plain_order {G = G} order)
plain_total l = total_order (plain_laws l)

pub formed_total : {G : Type 0} {g : Ghosts G} {order : Bytes → Bytes → Ordering} → Laws order → IsTotalOrder (formed_order {G = G} {g = g} order)
formed_total l = total_order (formed_laws l)

-- the derived equality, which looks at the bytes and at nothing else, holds exactly where the order says equal
beside : (b c : Bool) → b ≡ c → (b && true) ≡ c
beside true c e = e
beside false c e = e

pub plain_tied : {G : Type 0} {order : Bytes → Bytes → Ordering} → Laws order → (p q : Plain G) → (bytes_eq (plain_bytes p) (plain_bytes q) && true) ≡ is_eq (plain_order order p q)
plain_tied {order = order} l p q = beside (bytes_eq (plain_bytes p) (plain_bytes q)) (is_eq (plain_order order p q)) (bytes_tied l (plain_bytes p) (plain_bytes q))

pub formed_tied : {G : Type 0} {g : Ghosts G} {order : Bytes → Bytes → Ordering} → Laws order → (f h : Formed G g) → (bytes_eq (formed_bytes f) (formed_bytes h) && true) ≡ is_eq (formed_order order f h)
formed_tied l f h = plain_tied l f.plain h.plain
