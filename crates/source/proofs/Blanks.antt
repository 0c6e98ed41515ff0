-- Blanks that are written by calls. Assumes nothing.
use Rattle.std.proofs.Common.{◌≡◌, ℕ, ◌-◌, ◌≤◌, min, true, false, leb, List, [], ◌∷◌, ◌++◌, length, take, drop, replicate, refl, sym, ap, subst, ◌∙◌, ⊎_elim, arith}
use Rattle.std.specs.List.{FoldsTo}
use borrow.Rule.Slice.PartMut.{put_mid}
use Rattle.std.proofs.lemmas.List.{take_all, drop_all, append-nil, length-take, length-drop}
use Rattle.std.proofs.lemmas.Bool.{cases_Bool, leb-true, leb-false}

-- each call gives b, and leaves the closure as it was
called_all : {P X : Type 0} (R : P → X → P → Type 0) (b : X) (f : P) → ((x : X) (q : P) → R f x q → (x ≡ b) × (q ≡ f)) → (xs : List X) (last : P) → FoldsTo R f xs last → xs ≡ replicate (length xs) b
called_all R b f is [] last e = refl
called_all R b f is (x ∷ xs) last (j, r, e) =
    let rest : FoldsTo R f xs last = subst (λ p. FoldsTo R p xs last) (is x j r).1 e in
    ap (λ y. y ∷ xs) (is x j r).0 ∙ ap (λ ys. b ∷ ys) (called_all R b f is xs last rest)

-- as many as there are, or as there is room for
take_room : {X : Type 0} (xs : List X) (n k : ℕ) → k ≡ min n (length xs) → take k xs ≡ take n xs
take_room xs n k e =
    ⊎_elim
    (λ (h : leb n (length xs) ≡ true). let le = leb-true n (length xs) h in let is : k ≡ n = omega arith in ap (λ j. take j xs) is)
    (λ (h : leb n (length xs) ≡ false). let gt = leb-false n (length xs) h in let all : length xs ≤ k = omega arith in let more : length xs ≤ n = omega arith in take_all k xs all ∙ sym (take_all n xs more))
    (cases_Bool (leb n (length xs)))

pub blanked : {P X : Type 0} (b : X) (R : P → X → P → Type 0) (f : P) (xs ys : List X) (start k : ℕ) → k ≡ min start (length xs)
    → length ys ≡ length (take (length xs - k) (drop k xs)) → ((x : X) (q : P) → R f x q → (x ≡ b) × (q ≡ f)) → (last : P) → FoldsTo R f ys last
    → put_mid k (length xs - k) xs ys ≡ take start xs ++ replicate (length xs - start) b
blanked b R f xs ys start k e len is last ran =
    let room : length ys ≡ length xs - start = omega (arith, length-take (length xs - k) (drop k xs), length-drop k xs) in
    let none : drop (length xs - k) (drop k xs) ≡ [] = drop_all (length xs - k) (drop k xs) (omega (arith, length-drop k xs)) in
    ap (λ zs. take k xs ++ (ys ++ zs)) none
    ∙ ap (λ zs. take k xs ++ zs) (append-nil ys ∙ called_all R b f is ys last ran ∙ ap (λ n. replicate n b) room)
    ∙ ap (λ zs. zs ++ replicate (length xs - start) b) (take_room xs start k e)
