-- The words of a line, the first of them cut off. Assumes nothing.
use Rattle.std.proofs.Common.{◌≡◌, ℕ, suc, ◌-◌, ◌<◌, Bool, true, false, not, ◌||◌, eqb, List, [], ◌∷◌, length, get_or, take, drop, sym, refl, ap, ◌∙◌, ⊎_elim, one-add, arith}
use Rattle.std.specs.List.{prefix_len}
use Rattle.std.proofs.lemmas.List.{take_rest, nil_from_length, drop_more}
use Rattle.std.proofs.lemmas.Bool.{cond-true, cond-false, cases_Bool, not-true, or_parts, or_from, ne_eqb}
use Rattle.rules.specs.Orders.{Bytes}
use Rattle.rules.specs.Lines.{gap, word_byte, goes_on, Word, text, opening, closing, lengthened, words}

leads : (p : ℕ → Bool) (b : ℕ) (bs : Bytes) → p b ≡ true → prefix_len p (b ∷ bs) ≡ suc (prefix_len p bs)
leads p b bs e = cond-true _ _ _ e ∙ one-add _

stops : (p : ℕ → Bool) (b : ℕ) (bs : Bytes) → p b ≡ false → prefix_len p (b ∷ bs) ≡ 0
stops p b bs e = cond-false _ _ _ e

-- gaps say nothing
past_gaps : (bs : Bytes) → words bs ≡ words (drop (prefix_len gap bs) bs)
past_gaps [] = refl
past_gaps (b ∷ bs) =
    ⊎_elim
    (λ (e : gap b ≡ true). cond-true _ _ _ e ∙ past_gaps bs ∙ ap (λ n. words (drop n (b ∷ bs))) (sym (leads gap b bs e)))
    (λ (e : gap b ≡ false). ap (λ n. words (drop n (b ∷ bs))) (sym (stops gap b bs e)))
    (cases_Bool (gap b))

-- the byte behind the gaps is none
gaps_end : (bs : Bytes) → 0 < length (drop (prefix_len gap bs) bs) → gap (get_or (drop (prefix_len gap bs) bs) 0 0) ≡ false
gaps_end [] h = absurd (omega arith)
gaps_end (b ∷ bs) h =
    ⊎_elim
    (λ (e : gap b ≡ true).
    let on : drop (prefix_len gap (b ∷ bs)) (b ∷ bs) ≡ drop (prefix_len gap bs) bs = ap (λ n. drop n (b ∷ bs)) (leads gap b bs e) in
    ap (λ l. gap (get_or l 0 0)) on ∙ gaps_end bs (omega (arith, ap length on)))
    (λ (e : gap b ≡ false). ap (λ n. gap (get_or (drop n (b ∷ bs)) 0 0)) (stops gap b bs e) ∙ e)
    (cases_Bool (gap b))

-- a byte of a word begins one, or lengthens the one behind it
pub at_word_byte : (b : ℕ) (bs : Bytes) → word_byte b ≡ true → words (b ∷ bs) ≡ lengthened b (goes_on bs) (words bs)
at_word_byte b bs e =
    let parts = or_parts (gap b) (eqb b 40 || eqb b 41) (not-true _ e) in
    let marks = or_parts (eqb b 40) (eqb b 41) parts.1 in
    cond-false _ _ _ parts.0 ∙ cond-false _ _ _ marks.0 ∙ cond-false _ _ _ marks.1

-- a word of n bytes, and the words behind it
abbrev pub cut : ℕ → Bytes → List Word
cut n bs = text (take n bs) ∷ words (drop n bs)

pub word_cut : (b : ℕ) (bs : Bytes) → word_byte b ≡ true → words (b ∷ bs) ≡ cut (prefix_len word_byte (b ∷ bs)) (b ∷ bs)
word_cut b [] e = at_word_byte b [] e ∙ ap (λ n. cut n (b ∷ [])) (sym (leads word_byte b [] e))
word_cut b (x ∷ xs) e =
    at_word_byte b (x ∷ xs) e
    ∙ ⊎_elim
    (λ (f : word_byte x ≡ true). ap (λ t. lengthened b t (words (x ∷ xs))) f ∙ ap (lengthened b true) (word_cut x xs f))
    (λ (f : word_byte x ≡ false). ap (λ t. lengthened b t (words (x ∷ xs))) f ∙ ap (λ n. cut (suc n) (b ∷ x ∷ xs)) (sym (stops word_byte x xs f)))
    (cases_Bool (word_byte x))
    ∙ ap (λ n. cut n (b ∷ x ∷ xs)) (sym (leads word_byte b (x ∷ xs) e))

-- s is what is left of the line, n how many gaps it begins with, and r what is left behind them, as the checker reads it
module _ (s r : Bytes) (n : ℕ) (is : r ≡ take (length s - n) (drop n s)) (gaps : n ≡ prefix_len gap s) where
  same : words s ≡ words r
  same = past_gaps s ∙ ap (λ k. words (drop k s)) (sym gaps) ∙ ap words (sym (is ∙ take_rest s n))

  pub no_word : length r ≡ 0 → words s ≡ []
  no_word e = same ∙ ap words (nil_from_length r e)

  tail_is : 0 < length r → r ≡ get_or r 0 0 ∷ take (length r - 1) (drop 1 r)
  tail_is some = drop_more r 0 0 some ∙ ap (λ l. get_or r 0 0 ∷ l) (sym (take_rest r 1))

  pub at_opening : 0 < length r → get_or r 0 0 ≡ 40 → words s ≡ opening ∷ words (take (length r - 1) (drop 1 r))
  at_opening some e = same ∙ ap words (tail_is some) ∙ ap (λ b. words (b ∷ take (length r - 1) (drop 1 r))) e

  pub at_closing : 0 < length r → get_or r 0 0 ≡ 41 → words s ≡ closing ∷ words (take (length r - 1) (drop 1 r))
  at_closing some e = same ∙ ap words (tail_is some) ∙ ap (λ b. words (b ∷ take (length r - 1) (drop 1 r))) e

  cut_of : (l : Bytes) → 0 < length l → word_byte (get_or l 0 0) ≡ true → words l ≡ cut (prefix_len word_byte l) l
  cut_of [] some e = absurd (omega arith)
  cut_of (x ∷ xs) some e = word_cut x xs e

  pub at_text : (k : ℕ) → 0 < length r → (get_or r 0 0 ≡ 40 → ⊥) → (get_or r 0 0 ≡ 41 → ⊥) → k ≡ prefix_len word_byte r
      → words s ≡ cut k r
  at_text k some a b long =
      let whole : r ≡ drop (prefix_len gap s) s = is ∙ take_rest s n ∙ ap (λ m. drop m s) gaps in
      let first : gap (get_or r 0 0) ≡ false = ap (λ l. gap (get_or l 0 0)) whole ∙ gaps_end s (omega (arith, ap length whole)) in
      let e : word_byte (get_or r 0 0) ≡ true = ap not (or_from _ _ first (or_from _ _ (ne_eqb _ _ a) (ne_eqb _ _ b))) in
      same ∙ cut_of r some e ∙ ap (λ m. cut m r) (sym long)
