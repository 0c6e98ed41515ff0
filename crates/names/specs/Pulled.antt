-- What is told apart by its bytes obeys the laws that the order of the bytes obeys. Assumes nothing.
use Rattle.std.specs.Prelude.{◌≡◌}
use Rattle.std.specs.declared.cmp.Ordering.{Ordering}
use Rattle.rules.specs.Orders.{Laws}

pub pulled : {A B : Type 0} (f : A → B) (order : B → B → Ordering) → Laws order → ((x y : A) → f x ≡ f y → x ≡ y) → Laws (λ (x y : A). order (f x) (f y))
pulled f order l told = record {
  total = λ x y. l.total (f x) (f y);
  antisymmetric = λ x y p q. told x y (l.antisymmetric (f x) (f y) p q);
  transitive = λ x y z. l.transitive (f x) (f y) (f z);
  mirrored = λ x y. l.mirrored (f x) (f y);
}
