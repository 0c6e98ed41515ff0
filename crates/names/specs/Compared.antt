-- An order that obeys the laws is a total order as the library has it, and says equal of the same bytes alone. Assumes nothing.
use Rattle.std.specs.Prelude.{◌≡◌}
use Rattle.std.proofs.Common.{sym, refl, ap, ◌∙◌}
use Rattle.std.specs.declared.cmp.Ordering.{Ordering}
use Rattle.std.specs.Ordering.{is_eq}
use Rattle.std.specs.Cmp.{IsTotalOrder, Equal-is}
use Rattle.std.specs.Bool.{one_answer}
use Rattle.std.specs.Str.{bytes_eq}
use Rattle.std.proofs.lemmas.Slice.Eq.{slice_eq-Decides}
use Rattle.std.proofs.lemmas.Bool.Decides.{Decides-eqb}
use Rattle.rules.specs.Orders.{Bytes, Laws}
use Rattle.rules.proofs.Order.{total_of}

pub total_order : {A : Type 0} {order : A → A → Ordering} → Laws order → IsTotalOrder order
total_order {order = order} l =
    let t = total_of l in
    record { antisymm = λ x y. t.back y x; trans = t.on; congr = λ x y z p. ap (λ w. order w z) (t.apart x y p) }

pub bytes_tied : {order : Bytes → Bytes → Ordering} → Laws order → (a b : Bytes) → bytes_eq a b ≡ is_eq (order a b)
bytes_tied {order} l a b =
    let t = total_of l in
    let e = Equal-is (order a b) in
    one_answer (bytes_eq a b) (is_eq (order a b)) (slice_eq-Decides Decides-eqb a b (bytes_eq a b) refl) (λ h. t.apart a b (e.0 h), λ h. e.1 (ap (order a) (sym h) ∙ t.same a))
