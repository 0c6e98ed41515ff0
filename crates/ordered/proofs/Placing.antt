-- The place that is sought is the one place of the key. Assumes nothing.
use Rattle.std.proofs.Common.{◌≡◌, ℕ, zero, suc, List, [], ◌∷◌, Ok, Err, Result, Ordering, Less, Equal, Greater, sym, refl, ap, ◌∙◌, subst, arith}
use Rattle.ordered.specs.Places.{later, sought_by, sought, Placed, PlacesRight}

module _ {A K : Type 0} (key : A → K) (order : K → K → Ordering) where
  sought_placed : (k : K) (xs : List A) → Placed key order k xs (sought key order k xs)
  sought_placed k [] = (tt, tt, omega arith)
  sought_placed k (y ∷ ys) = go (order k (key y)) refl (sought key order k ys) (sought_placed k ys)
    where
      go : (o : Ordering) → order k (key y) ≡ o → (r : Result ℕ ℕ) → Placed key order k ys r → Placed key order k (y ∷ ys) (sought_by key order o r)
      go Less e r h = (tt, e, omega arith)
      go Equal e r h = (tt, e)
      go Greater e (Ok i) h = ((e, h.0), h.1)
      go Greater e (Err i) h = ((e, h.0), h.1, omega (arith, h.2))

  -- one item on, by how the key stands to the item that is passed
  step : (k : K) (y : A) (ys : List A) (o : Ordering) (r : Result ℕ ℕ) → order k (key y) ≡ o → r ≡ sought_by key order o (sought key order k ys) → r ≡ sought key order k (y ∷ ys)
  step k y ys o r e q = q ∙ ap (λ p. sought_by key order p (sought key order k ys)) (sym e)

  placed_sought : (k : K) (xs : List A) (r : Result ℕ ℕ) → Placed key order k xs r → r ≡ sought key order k xs
  placed_sought k [] (Ok zero) h = absurd h.1
  placed_sought k [] (Ok (suc i)) h = absurd h.1
  placed_sought k [] (Err zero) h = refl
  placed_sought k [] (Err (suc i)) h = absurd (omega (arith, h.2))
  placed_sought k (y ∷ ys) (Ok zero) h = step k y ys Equal (Ok 0) h.1 refl
  placed_sought k (y ∷ ys) (Ok (suc i)) h = step k y ys Greater (Ok (suc i)) h.0.0 (ap later (placed_sought k ys (Ok i) (h.0.1, h.1)))
  placed_sought k (y ∷ ys) (Err zero) h = step k y ys Less (Err 0) h.1 refl
  placed_sought k (y ∷ ys) (Err (suc i)) h = step k y ys Greater (Err (suc i)) h.0.0 (ap later (placed_sought k ys (Err i) (h.0.1, h.1, omega (arith, h.2))))

pub places_right : (A K : Type 0) → PlacesRight A K
places_right A K key order k xs r = (λ e. subst (Placed key order k xs) (sym e) (sought_placed key order k xs), placed_sought key order k xs r)
