-- What a table answers of its items, said of the names that they stand for. Assumes nothing.
use Rattle.std.proofs.Common.{◌≡◌, ℕ, suc, Bool, true, false, ltb, leb, List, [], ◌∷◌, map, length, is_some, is_ok, Some, None, Option, Result, Ordering, Less, Equal, Greater, sym, refl, ap, ◌∙◌, ap₂, arith}
use Rattle.std.specs.Option.{option_map}
use Rattle.std.specs.Bool.{then_some}
use Rattle.ordered.specs.Held.{admitted, fitting}
use Rattle.ordered.specs.declared.table.NotInserted.{NotInserted}
use Rattle.rules.specs.Tables.{lookup_by, lookup, entered_by, entered}
use Rattle.rules.proofs.Tables.{map_lookup}

length-map : {A B : Type 0} (f : A → B) (xs : List A) → length (map f xs) ≡ length xs
length-map f [] = refl
length-map f (x ∷ xs) = ap suc (length-map f xs)

admitted_map : {A B : Type 0} (f : A → B) (o : Option A) (room : Bool) → admitted o room ≡ admitted (option_map f o) room
admitted_map f None true = refl
admitted_map f None false = refl
admitted_map f (Some x) room = refl

pub some_map : {A B : Type 0} (f : A → B) (o : Option A) → is_some o ≡ is_some (option_map f o)
some_map f None = refl
some_map f (Some x) = refl

pub mapped_twice : {A B C : Type 0} (f : A → B) (g : B → C) (o : Option A) → option_map (λ x. g (f x)) o ≡ option_map g (option_map f o)
mapped_twice f g None = refl
mapped_twice f g (Some x) = refl

pub fitting_map : {A B : Type 0} (n : ℕ) (f : A → B) (xs : List A) → option_map (map f) (fitting n xs) ≡ fitting n (map f xs)
fitting_map {A} {B} n f xs = go (leb (length xs) n) ∙ ap (λ k. then_some (leb k n) (map f xs)) (sym (length-map f xs))
  where
    go : (b : Bool) → option_map (map f) (then_some b xs) ≡ then_some b (map f xs)
    go true = refl
    go false = refl

-- an insertion that was accepted found nothing at its key
pub accepted_absent : {A : Type 0} (o : Option A) (room : Bool) → is_ok (admitted o room) ≡ true → o ≡ None
accepted_absent None room t = refl
accepted_absent (Some x) room t = let z : ◌≡◌ {A = ℕ} 0 1 = cc in absurd (omega arith)

-- where nothing is at the key, it does not matter what two items would make of each other
pub entered_fresh : {A K : Type 0} (key : A → K) (order : K → K → Ordering) (f g : A → A → A) (x : A) (t : List A)
    → lookup key order (key x) t ≡ None → entered key order f x t ≡ entered key order g x t
entered_fresh key order f g x [] e = refl
entered_fresh {A} key order f g x (y ∷ ys) e = go (order (key x) (key y)) (entered_fresh key order f g x ys) e
  where
    go : (o : Ordering) → (lookup key order (key x) ys ≡ None → entered key order f x ys ≡ entered key order g x ys)
        → lookup_by key order o y (lookup key order (key x) ys) ≡ None
        → entered_by key order o f x y ys (entered key order f x ys) ≡ entered_by key order o g x y ys (entered key order g x ys)
    go Less below h = refl
    go Equal below h = let z : ◌≡◌ {A = ℕ} 0 1 = cc in absurd (omega arith)
    go Greater below h = ap (λ zs. y ∷ zs) (below h)

module _ {A B K L : Type 0} (key : A → K) (order : K → K → Ordering) (name : B → L) (by : L → L → Ordering) (f : A → B) where
  -- what an insertion answers
  pub admitted_named : (n : ℕ) (k : K) (l : L) → ((y : A) → order k (key y) ≡ by l (name (f y))) → (t : List A) (r : Result (Unit {0}) NotInserted)
      → r ≡ admitted (lookup key order k t) (ltb (length t) n) → r ≡ admitted (lookup name by l (map f t)) (ltb (length (map f t)) n)
  admitted_named n k l agrees t r e =
      e ∙ admitted_map f (lookup key order k t) (ltb (length t) n)
      ∙ ap₂ (λ o m. admitted o (ltb m n)) (map_lookup key order name by f k l agrees t) (sym (length-map f t))
