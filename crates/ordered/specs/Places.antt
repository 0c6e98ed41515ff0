-- Where an item of a key stands in a list, or would stand. Assumes nothing.
use Rattle.std.specs.Prelude.{◌≡◌, ℕ, suc, ◌≤◌, ◌↔◌, List, [], ◌∷◌, length, take, drop, Ok, Err, Result}
use Rattle.std.specs.declared.cmp.Ordering.TheVariants.{Less, Equal, Greater}
use Rattle.std.specs.declared.cmp.Ordering.{Ordering}
use Rattle.std.specs.List.{AllByRecursion}

-- a place in the tail of a list, counted from the list's first item
abbrev pub later : Result ℕ ℕ → Result ℕ ℕ
later (Ok i) = Ok (suc i)
later (Err i) = Err (suc i)

module _ {A K : Type 0} (key : A → K) (order : K → K → Ordering) where
  -- by how the key that is looked for stands to the key of the list's first item
  abbrev pub sought_by : Ordering → Result ℕ ℕ → Result ℕ ℕ
  sought_by Less rest = Err 0
  sought_by Equal rest = Ok 0
  sought_by Greater rest = later rest

  -- Ok and the place of the item at a key, or Err and the place where it would be entered. The list is read as a look-up reads it: from its
  -- first item on, and no further than to the key.
  abbrev pub sought : K → List A → Result ℕ ℕ
  sought k [] = Err 0
  sought k (y ∷ ys) = sought_by (order k (key y)) (sought k ys)

  -- ---- what this is, in items

  -- the first item, if there is one, is above k
  abbrev pub GoesOnAbove : K → List A → Type 0
  GoesOnAbove k [] = Unit {0}
  GoesOnAbove k (y ∷ ys) = order k (key y) ≡ Less

  -- there is a first item, and it is at k
  abbrev pub GoesOnAt : K → List A → Type 0
  GoesOnAt k [] = ⊥
  GoesOnAt k (y ∷ ys) = order k (key y) ≡ Equal

  -- r is the place of k: all before it are below k, and what stands there is at k (Ok), or above it or nothing (Err)
  abbrev pub Placed : K → List A → Result ℕ ℕ → Type 0
  Placed k xs (Ok i) = AllByRecursion (λ y. order k (key y) ≡ Greater) (take i xs) × GoesOnAt k (drop i xs)
  Placed k xs (Err i) = AllByRecursion (λ y. order k (key y) ≡ Greater) (take i xs) × GoesOnAbove k (drop i xs) × (i ≤ length xs)

-- THE PLACE: by every key and every order there is one place, and it is the one that is sought
abbrev pub PlacesRight : Type 0 → Type 0 → Type 0
PlacesRight A K = (key : A → K) (order : K → K → Ordering) (k : K) (xs : List A) (r : Result ℕ ℕ) → (r ≡ sought key order k xs) ↔ Placed key order k xs r
