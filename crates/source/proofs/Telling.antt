-- What a question tells, by its parts: from what is told what the meaning answers, and back. Assumes nothing.
use Rattle.std.proofs.Common.{◌≡◌, ℕ, zero, suc, ◌-◌, ◌<◌, ◌≤◌, cond, List, [], ◌∷◌, ◌++◌, map, length, take, replicate, sym, refl, ap, ◌∙◌, arith}
use Rattle.std.proofs.lemmas.Bool.{le-leb, lt-leb}
use Rattle.std.proofs.lemmas.List.{length-append, length-map, map-append, take_at, take-map}
use Rattle.rules.specs.Causes.{Fault}
use Rattle.rules.specs.Sources.{Answer, found, fault, found_in, narrowed}
use Rattle.rules.specs.Slices.{filled}
use Rattle.rules.specs.Questions.{too_short, given_in, told}

given_short : {A : Type 0} (n : ℕ) (a : Answer A) → n < 64 → given_in n a ≡ fault too_short
given_short n a h = ap (λ b. cond b a (fault too_short)) (lt-leb 64 n h)

pub given_long : {A : Type 0} (n : ℕ) (a : Answer A) → 64 ≤ n → given_in n a ≡ a
given_long n a h = ap (λ b. cond b a (fault too_short)) (le-leb 64 n h)

map_replicate : {R X : Type 0} (f : R → X) (n : ℕ) (b : R) → map f (replicate n b) ≡ replicate n (f b)
map_replicate f zero b = refl
map_replicate f (suc n) b = ap (λ ys. f b ∷ ys) (map_replicate f n b)

module _ {R X : Type 0} (f : R → X) (none : X) where
  -- r is answered, and the items are left, as the meaning's answer a asks in a slice of n places
  abbrev pub Tells : ℕ → Answer (List X) → Answer ℕ → List R → Type 0
  Tells n a r left = (r ≡ (told none n a).answer) × (map f left ≡ (told none n a).slice)

  map_filled : (b : R) → f b ≡ none → (n : ℕ) (xs : List R) → map f (filled b n xs) ≡ filled none n (map f xs)
  map_filled b e n xs =
      map-append f xs (replicate (n - length xs) b)
      ∙ ap (λ ys. map f xs ++ ys) (map_replicate f (n - length xs) b ∙ ap (λ y. replicate (n - length xs) y) e)
      ∙ ap (λ k. map f xs ++ replicate (n - k) none) (sym (length-map xs f))

  -- by the answer as it is given
  tells : (n : ℕ) (a b : Answer (List X)) (r : Answer ℕ) (left : List R) → given_in n a ≡ b → r ≡ narrowed length b → map f left ≡ filled none n (found_in b) → Tells n a r left
  tells n a b r left e p q = (p ∙ ap (narrowed length) (sym e), q ∙ ap (λ z. filled none n (found_in z)) (sym e))

  pub tells_short : (n : ℕ) (a : Answer (List X)) (b : R) (r : Answer ℕ) (left : List R) → n < 64 → f b ≡ none → r ≡ fault too_short → left ≡ filled b n [] → Tells n a r left
  tells_short n a b r left h e p q = tells n a (fault too_short) r left (given_short n a h) p (ap (map f) q ∙ map_filled b e n [])

  pub tells_fault : (n : ℕ) (a : Answer (List X)) (g : Fault) (b : R) (r : Answer ℕ) (left : List R) → 64 ≤ n → a ≡ fault g → f b ≡ none → r ≡ fault g → left ≡ filled b n [] → Tells n a r left
  tells_fault n a g b r left h w e p q = tells n a (fault g) r left (given_long n a h ∙ w) p (ap (map f) q ∙ map_filled b e n [])

  pub tells_found : (n : ℕ) (a : Answer (List X)) (xs : List R) (b : R) (r : Answer ℕ) (left : List R) → 64 ≤ n → a ≡ found (map f xs) → f b ≡ none → r ≡ found (length xs) → left ≡ filled b n xs → Tells n a r left
  tells_found n a xs b r left h w e p q = tells n a (found (map f xs)) r left (given_long n a h ∙ w) (p ∙ ap found (sym (length-map xs f))) (ap (map f) q ∙ map_filled b e n xs)

  -- what is found stands in the first places
  pub found_told : (n k : ℕ) (a : Answer (List X)) (items : List R) → 64 ≤ n → Tells n a (found k) items → a ≡ found (map f (take k items))
  found_told n k a items h t = go a (t.0 ∙ ap (narrowed length) (given_long n a h)) (t.1 ∙ ap (λ z. filled none n (found_in z)) (given_long n a h))
    where
      go : (b : Answer (List X)) → found k ≡ narrowed length b → map f items ≡ filled none n (found_in b) → b ≡ found (map f (take k items))
      go (fault g) p s = let z : ◌≡◌ {A = ℕ} 0 1 = cc in absurd (omega arith)
      go (found ys) p s = let kk : k ≡ length ys = cc in ap found (sym (ap (take k) s ∙ take_at ys (replicate (n - length ys) none) k (sym kk)) ∙ take-map f k items)

  -- and fits the slice
  pub found_fits : (n k : ℕ) (a : Answer (List X)) (items : List R) → 64 ≤ n → Tells n a (found k) items → k ≤ length items
  found_fits n k a items h t = go a (t.0 ∙ ap (narrowed length) (given_long n a h)) (t.1 ∙ ap (λ z. filled none n (found_in z)) (given_long n a h))
    where
      go : (b : Answer (List X)) → found k ≡ narrowed length b → map f items ≡ filled none n (found_in b) → k ≤ length items
      go (fault g) p s = let z : ◌≡◌ {A = ℕ} 0 1 = cc in absurd (omega arith)
      go (found ys) p s = let kk : k ≡ length ys = cc in omega (arith, kk, ap length s, length-append ys (replicate (n - length ys) none), length-map items f)

  pub fault_told : (n : ℕ) (g : Fault) (a : Answer (List X)) (items : List R) → 64 ≤ n → Tells n a (fault g) items → a ≡ fault g
  fault_told n g a items h t = go a (t.0 ∙ ap (narrowed length) (given_long n a h))
    where
      go : (b : Answer (List X)) → fault g ≡ narrowed length b → b ≡ fault g
      go (found ys) p = let z : ◌≡◌ {A = ℕ} 0 1 = cc in absurd (omega arith)
      go (fault k) p = let e : g ≡ k = cc in ap fault (sym e)
