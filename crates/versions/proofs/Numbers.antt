-- Numbers by their digits. Assumes nothing.
use Rattle.std.proofs.Common.{◌≡◌, ℕ, ◌+◌, ◌-◌, ◌*◌, ◌<◌, true, ◌⊎◌, [], ◌∷◌, length, Ordering, Less, Equal, Greater, sym, refl, ap, ◌∙◌, inl, inr, arith}
use Rattle.std.specs.Ordering.{MatchOrdering, ordering_then}
use Rattle.std.proofs.lemmas.Bool.{cases_order}
use Rattle.std.proofs.lemmas.Bool.Decides.{nat_tests}
use Rattle.rules.specs.Orders.{Bytes, number_order, lexical, dictionary}
use Rattle.rules.specs.Texts.{digit, every}
use Rattle.rules.specs.Versions.{is_number, value}
use Rattle.rules.proofs.Precedence.{digit_bounds, every_head, value_less, number_digits, shorter_less}

below : (m n : ℕ) → m < n → number_order m n ≡ Less
below m n l = grind (arith, nat_tests)

above : (m n : ℕ) → n < m → number_order m n ≡ Greater
above m n l = grind (arith, nat_tests)

as_high : (m n : ℕ) → m ≡ n → number_order m n ≡ Equal
as_high m n e = grind (arith, nat_tests)

-- As many digits stand by their bytes. In front of them stand digits of the values m and k, the last of which are d and e.
by_digit : (m k d e : ℕ) (ds es : Bytes) → every digit ds ≡ true → every digit es ≡ true → length ds ≡ length es → (d ≡ e → m ≡ k) → (d < e → m < k) → (e < d → k < m)
    → number_order (value m ds) (value m es) ≡ dictionary ds es → number_order (value m ds) (value k es) ≡ ordering_then (number_order d e) (dictionary ds es)
by_digit m k d e ds es t u l eq lt gt rest = go (cases_order d e)
  where
    go : (d ≡ e) ⊎ ((d < e) ⊎ (e < d)) → number_order (value m ds) (value k es) ≡ ordering_then (number_order d e) (dictionary ds es)
    go (inl q) = ap (λ n. number_order (value m ds) (value n es)) (sym (eq q)) ∙ rest ∙ ap (λ o. ordering_then o (dictionary ds es)) (sym (as_high d e q))
    go (inr (inl q)) = below (value m ds) (value k es) (value_less m k ds es t u l (lt q)) ∙ ap (λ o. ordering_then o (dictionary ds es)) (sym (below d e q))
    go (inr (inr q)) = above (value m ds) (value k es) (value_less k m es ds u t (sym l) (gt q)) ∙ ap (λ o. ordering_then o (dictionary ds es)) (sym (above d e q))

as_many : (n : ℕ) (ds es : Bytes) → every digit ds ≡ true → every digit es ≡ true → length ds ≡ length es → number_order (value n ds) (value n es) ≡ dictionary ds es
unfolding lexical
as_many n [] [] t u l = as_high n n refl
as_many n [] (e ∷ es) t u l = absurd (omega arith)
as_many n (d ∷ ds) [] t u l = absurd (omega arith)
as_many n (d ∷ ds) (e ∷ es) t u l =
    let (td, ts) = every_head digit d ds t in
    let (ue, us) = every_head digit e es u in
    let bd = digit_bounds d td in
    let be = digit_bounds e ue in
    let long : length ds ≡ length es = omega arith in
    by_digit (n * 10 + (d - 48)) (n * 10 + (e - 48)) d e ds es ts us long (λ q. omega arith) (λ q. omega arith) (λ q. omega arith) (as_many (n * 10 + (d - 48)) ds es ts us long)

module _ (a b : Bytes) (t : is_number a ≡ true) (u : is_number b ≡ true) where
  -- the longer is the greater, and of as many digits the first that differ decide
  pub numbers_ordered : (o p : Ordering) → MatchOrdering o (length a < length b) (length a ≡ length b) (length b < length a) → p ≡ dictionary a b → ordering_then o p ≡ number_order (value 0 a) (value 0 b)
  numbers_ordered Less p h e = sym (below (value 0 a) (value 0 b) (shorter_less a b t u h))
  numbers_ordered Equal p h e = e ∙ sym (as_many 0 a b (number_digits a t) (number_digits b u) h)
  numbers_ordered Greater p h e = sym (above (value 0 a) (value 0 b) (shorter_less b a u t h))
