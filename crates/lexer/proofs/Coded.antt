-- The code of a line, byte by byte. Assumes nothing.
use Rattle.std.proofs.Common.{◌≡◌, ℕ, zero, suc, ◌+◌, ◌<◌, ◌≤◌, true, false, true≢false, [], ◌∷◌, ◌++◌, length, get_or, take, drop, sym, refl, ap, ◌∙◌, append-nil, arith, ap₂, subst}
use Rattle.std.proofs.lemmas.List.{append_assoc, take_more, drop_more, take_all, drop_all}
use Rattle.std.proofs.lemmas.Bool.{cond-true, cond-false}
use Rattle.rules.specs.Orders.{Bytes}
use Rattle.rules.specs.Lines.{code}
use Rattle.lexer.specs.Cuts.{begins_with_comment}

-- at a byte that begins no comment there is that byte and what follows
at_code : (b : ℕ) (bs : Bytes) → begins_with_comment (b ∷ bs) ≡ false → code (b ∷ bs) ≡ b ∷ code bs
at_code b [] e = refl
at_code b (c ∷ bs) e = cond-false _ _ _ e

module _ (l : Bytes) (n : ℕ) (front : code l ≡ take n l ++ code (drop n l)) where
  pub code_more : n < length l → begins_with_comment (drop n l) ≡ false → code l ≡ take (n + 1) l ++ code (drop (n + 1) l)
  code_more h e =
      let m = drop_more l n 0 h in
      let on : code (drop n l) ≡ get_or l n 0 ∷ code (drop (n + 1) l) = ap code m ∙ at_code (get_or l n 0) (drop (n + 1) l) (sym (ap begins_with_comment m) ∙ e) in
      front ∙ ap (λ t. take n l ++ t) on ∙ sym (append_assoc (take n l) (get_or l n 0 ∷ []) (code (drop (n + 1) l))) ∙ ap (λ t. t ++ code (drop (n + 1) l)) (sym (take_more l n 0 h))

-- two slashes end the code
at_comment : (bs : Bytes) → begins_with_comment bs ≡ true → code bs ≡ []
at_comment [] e = absurd (true≢false (sym e))
at_comment (b ∷ []) e = absurd (true≢false (sym e))
at_comment (b ∷ c ∷ bs) e = cond-true _ _ _ e

-- the code goes on as long as no comment begins
code_front : (l : Bytes) (n : ℕ) → n ≤ length l → ((k : ℕ) → k < n → begins_with_comment (drop k l) ≡ false) → code l ≡ take n l ++ code (drop n l)
code_front l zero h off = refl
code_front l (suc n) h off =
    let e : suc n ≡ n + 1 = omega arith in
    subst (λ m. code l ≡ take m l ++ code (drop m l)) (sym e) (code_more l n (code_front l n (omega arith) (λ k lt. off k (omega arith))) (omega arith) (off n (omega arith)))

pub code_first : (l : Bytes) (n : ℕ) → n ≤ length l → ((k : ℕ) → k < n → begins_with_comment (drop k l) ≡ false) → begins_with_comment (drop n l) ≡ true → take n l ≡ code l
code_first l n h off here = sym (code_front l n h off ∙ ap (λ t. take n l ++ t) (at_comment (drop n l) here) ∙ append-nil (take n l))

pub code_whole : (l : Bytes) → ((k : ℕ) → k < length l → begins_with_comment (drop k l) ≡ false) → l ≡ code l
code_whole l off =
    sym (code_front l (length l) (omega arith) off ∙ ap₂ (λ s t. s ++ t) (take_all (length l) l (omega arith)) (ap code (drop_all (length l) l (omega arith))) ∙ append-nil l)
