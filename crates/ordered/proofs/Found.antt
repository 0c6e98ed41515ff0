-- What a look-up, an entry and a removal give, by the place of the key. Assumes nothing.
use Rattle.std.proofs.Common.{◌≡◌, ℕ, ◌<◌, List, [], ◌∷◌, get_or, take, set, length, Some, None, Ok, Err, Option, Result, Ordering, Less, Equal, Greater, sym, refl, ap, ◌∙◌, MatchResult, arith}
use lib.Seq.{take-set-lt}
use Rattle.std.specs.List.{insert, remove}
use Rattle.std.specs.Result.{result_ok}
use Rattle.std.proofs.lemmas.List.{get_or-take, length-take}
use Rattle.std.proofs.lemmas.Result.{MatchResult-at_ok, MatchResult-at_err}
use Rattle.rules.specs.Tables as tables
use Rattle.rules.specs.Tables.{keep}
use Rattle.ordered.specs.Held.{give}
use Rattle.ordered.specs.Places.{sought, sought_by}

found : (r : Result ℕ ℕ) {i : ℕ} → Some i ≡ result_ok r → r ≡ Ok i
found (Ok j) e = cc
found (Err j) e = cc

missed : (r : Result ℕ ℕ) → None ≡ result_ok r → (i : ℕ) × (r ≡ Err i)
missed (Ok j) e = cc
missed (Err j) e = (j, refl)

module _ {A K : Type 0} (key : A → K) (order : K → K → Ordering) where
  -- the item there
  abbrev Looked : List A → Option A → Result ℕ ℕ → Type 0
  Looked xs o r = MatchResult r (λ i. (d : A) → o ≡ Some (get_or xs i d)) (λ _. o ≡ None)

  looked : (k : K) (xs : List A) → Looked xs (tables.lookup key order k xs) (sought key order k xs)
  looked k [] = refl
  looked k (y ∷ ys) = go (order k (key y)) (sought key order k ys) (looked k ys)
    where
      go : (o : Ordering) (r : Result ℕ ℕ) → Looked ys (tables.lookup key order k ys) r
          → Looked (y ∷ ys) (tables.lookup_by key order o y (tables.lookup key order k ys)) (sought_by key order o r)
      go Less r h = refl
      go Equal r h = λ d. refl
      go Greater (Ok i) h = h
      go Greater (Err i) h = h

  -- the item there met, or the new one put there
  abbrev Put : (A → A → A) → A → List A → List A → Result ℕ ℕ → Type 0
  Put meet x xs zs r = MatchResult r (λ i. zs ≡ set xs i (meet x (get_or xs i x))) (λ i. zs ≡ insert xs i x)

  put : (meet : A → A → A) (x : A) (xs : List A) → Put meet x xs (tables.entered key order meet x xs) (sought key order (key x) xs)
  put meet x [] = refl
  put meet x (y ∷ ys) = go (order (key x) (key y)) (sought key order (key x) ys) (put meet x ys)
    where
      go : (o : Ordering) (r : Result ℕ ℕ) → Put meet x ys (tables.entered key order meet x ys) r
          → Put meet x (y ∷ ys) (tables.entered_by key order o meet x y ys (tables.entered key order meet x ys)) (sought_by key order o r)
      go Less r h = refl
      go Equal r h = refl
      go Greater (Ok i) h = ap (λ zs. y ∷ zs) h
      go Greater (Err i) h = ap (λ zs. y ∷ zs) h

  -- the item there left out
  abbrev Gone : List A → List A → Result ℕ ℕ → Type 0
  Gone xs zs r = MatchResult r (λ i. zs ≡ remove xs i) (λ _. zs ≡ xs)

  gone : (k : K) (xs : List A) → Gone xs (tables.removed key order k xs) (sought key order k xs)
  gone k [] = refl
  gone k (y ∷ ys) = go (order k (key y)) (sought key order k ys) (gone k ys)
    where
      go : (o : Ordering) (r : Result ℕ ℕ) → Gone ys (tables.removed key order k ys) r
          → Gone (y ∷ ys) (tables.removed_by key order o y ys (tables.removed key order k ys)) (sought_by key order o r)
      go Less r h = refl
      go Equal r h = refl
      go Greater (Ok i) h = ap (λ zs. y ∷ zs) h
      go Greater (Err i) h = ap (λ zs. y ∷ zs) h

  within : (k : K) (xs : List A) → MatchResult (sought key order k xs) (λ i. i < length xs) (λ _. Unit {0})
  within k [] = tt
  within k (y ∷ ys) = go (order k (key y)) (sought key order k ys) (within k ys)
    where
      go : (o : Ordering) (r : Result ℕ ℕ) → MatchResult r (λ i. i < length ys) (λ _. Unit {0}) → MatchResult (sought_by key order o r) (λ i. i < length (y ∷ ys)) (λ _. Unit {0})
      go Less r h = tt
      go Equal r h = omega arith
      go Greater (Ok i) h = omega (arith, h)
      go Greater (Err i) h = tt

-- The same by whether the search found the key.
module _ {A K : Type 0} (key : A → K) (order : K → K → Ordering) (k : K) (t : List A) where
  module _ (i : ℕ) (e : Some i ≡ result_ok (sought key order k t)) where
    pub found_looked : (d : A) → Some (get_or t i d) ≡ tables.lookup key order k t
    found_looked d = sym (MatchResult-at_ok _ _ i (found (sought key order k t) e) (looked key order k t) d)

    pub found_gone : remove t i ≡ tables.removed key order k t
    found_gone = sym (MatchResult-at_ok _ _ i (found (sought key order k t) e) (gone key order k t))

    found_within : i < length t
    found_within = MatchResult-at_ok (λ j. j < length t) (λ _. Unit {0}) i (found (sought key order k t) e) (within key order k t)

    -- of an array whose first n items are t
    module _ (xs : List A) (n : ℕ) (first : take n xs ≡ t) where
      pub in_front : i < n
      in_front = omega (arith, found_within, ap length first, length-take n xs)

      pub found_read : (d : A) → Some (get_or xs i d) ≡ tables.lookup key order k t
      found_read d = ap Some (sym (get_or-take n xs i d in_front) ∙ ap (λ zs. get_or zs i d) first) ∙ found_looked d

  module _ (e : None ≡ result_ok (sought key order k t)) where
    pub missed_looked : None ≡ tables.lookup key order k t
    missed_looked = let (i, at) = missed (sought key order k t) e in sym (MatchResult-at_err _ _ i at (looked key order k t))

    pub missed_gone : t ≡ tables.removed key order k t
    missed_gone = let (i, at) = missed (sought key order k t) e in sym (MatchResult-at_err _ _ i at (gone key order k t))

module _ {A K : Type 0} (key : A → K) (order : K → K → Ordering) (x : A) (t : List A) (i : ℕ) where
  module _ (e : Some i ≡ result_ok (sought key order (key x) t)) where
    pub found_put : set t i x ≡ tables.entered key order give x t
    found_put = sym (MatchResult-at_ok _ _ i (found (sought key order (key x) t) e) (put key order give x t))

    -- in an array whose first n items are t
    pub found_written : (xs : List A) (n : ℕ) → take n xs ≡ t → take n (set xs i x) ≡ tables.entered key order give x t
    found_written xs n first =
        take-set-lt n xs i x (in_front key order (key x) t i e xs n first) ∙ ap (λ zs. set zs i x) first ∙ found_put

  pub missed_put : Err i ≡ sought key order (key x) t → insert t i x ≡ tables.entered key order keep x t
  missed_put e = sym (MatchResult-at_err _ _ i (sym e) (put key order keep x t))
