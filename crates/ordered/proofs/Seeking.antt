-- The steps of a search. Assumes nothing.
use Rattle.std.proofs.Common.{◌≡◌, ℕ, ◌+◌, ◌<◌, List, ◌∷◌, length, get_or, drop, Ok, Err, Result, Ordering, Less, Equal, Greater, sym, ap, ◌∙◌, add-zero, arith}
use Rattle.std.proofs.lemmas.List.{drop_more, drop_all}
use Rattle.ordered.specs.Places.{later, sought, sought_by}

-- a place of the list behind n items, counted from the first of those
abbrev pub moved : ℕ → Result ℕ ℕ → Result ℕ ℕ
moved n (Ok i) = Ok (n + i)
moved n (Err i) = Err (n + i)

moved_later : (n : ℕ) (r : Result ℕ ℕ) → moved n (later r) ≡ moved (n + 1) r
moved_later n (Ok i) = ap Ok (omega arith)
moved_later n (Err i) = ap Err (omega arith)

module _ {A K : Type 0} (key : A → K) (order : K → K → Ordering) (k : K) (xs : List A) where
  -- what is left behind i items gives the place
  abbrev pub Left : ℕ → Type 0
  Left i = moved i (sought key order k (drop i xs)) ≡ sought key order k xs

  -- the search stands at i, before an item x whose key is k', and k' was compared
  module _ (i : ℕ) (left : Left i) (x : A) (in_list : i < length xs) (read : x ≡ get_or xs i x) (k' : K) (keyed : k' ≡ key x) where
    turn : (o : Ordering) → o ≡ order k k' → moved i (sought_by key order o (sought key order k (drop (i + 1) xs))) ≡ sought key order k xs
    turn o e =
        ap (λ p. moved i (sought_by key order p (sought key order k (drop (i + 1) xs)))) (e ∙ ap (order k) keyed)
        ∙ ap (λ ys. moved i (sought key order k ys)) (ap (λ y. y ∷ drop (i + 1) xs) read ∙ sym (drop_more xs i x in_list))
        ∙ left

    pub turn_less : Less ≡ order k k' → Err i ≡ sought key order k xs
    turn_less e = ap Err (sym (add-zero i)) ∙ turn Less e

    pub turn_equal : Equal ≡ order k k' → Ok i ≡ sought key order k xs
    turn_equal e = ap Ok (sym (add-zero i)) ∙ turn Equal e

    pub turn_greater : Greater ≡ order k k' → Left (i + 1)
    turn_greater e = sym (moved_later i (sought key order k (drop (i + 1) xs))) ∙ turn Greater e

  pub at_end : (i : ℕ) → Left i → i ≡ length xs → Err (length xs) ≡ sought key order k xs
  at_end i left e =
      ap Err (sym e ∙ sym (add-zero i)) ∙ ap (λ ys. moved i (sought key order k ys)) (sym (drop_all i xs (omega arith))) ∙ left
