-- The lines of a text, the first of them cut off. Assumes nothing.
use Rattle.std.proofs.Common.{◌≡◌, ℕ, suc, ◌+◌, ◌-◌, ◌<◌, ◌≤◌, Bool, true, false, cond, eqb, leb, List, [], ◌∷◌, length, take, drop, sym, refl, ap, ◌∙◌, one-add, arith}
use Prim.Native.Nat.compare
use Rattle.std.specs.List.{prefix_len}
use Rattle.std.proofs.lemmas.List.{drop-drop, length-drop, length-take-le, take_rest}
use Rattle.std.proofs.lemmas.List.Sums.{prefix_len-le-length}
use Rattle.std.proofs.lemmas.Bool.{cond-true, cond-false, le-leb, lt-leb}
use Rattle.std.proofs.lemmas.Bool.Decides.{nat_tests}
use Rattle.rules.specs.Orders.{Bytes}
use Rattle.rules.specs.Lines.{lines}
use Rattle.lexer.specs.Cuts.{in_line, first_line}
use Rattle.lexer.specs.Lefts.{lines_from}

-- cut behind n bytes
abbrev cut : ℕ → Bytes → List Bytes
cut n bs = take n bs ∷ lines_from (suc n) bs

pub cut_first : (bs : Bytes) → lines bs ≡ cut (prefix_len in_line bs) bs
cut_first [] = refl
cut_first (b ∷ bs) = go (cut_first bs) (eqb b 10) refl
  where
    go : lines bs ≡ cut (prefix_len in_line bs) bs → (t : Bool) → eqb b 10 ≡ t → lines (b ∷ bs) ≡ cut (prefix_len in_line (b ∷ bs)) (b ∷ bs)
    go below true e = rw e (ap (λ t. [] ∷ cond t (lines bs) []) (sym (le-leb 1 (length (b ∷ bs)) (omega arith))))
    go below false e = rw (e, below, one-add, compare.suc-suc) refl

first_length : (bs : Bytes) → length (first_line bs) ≡ prefix_len in_line bs
first_length bs = length-take-le (prefix_len in_line bs) bs (prefix_len-le-length in_line bs)

-- what is left behind k bytes of what is left behind `at`
from_drop : (text : Bytes) (at k : ℕ) → at ≤ length text → lines_from k (drop at text) ≡ lines_from (at + k) text
from_drop text at k h =
    let size = length-drop at text in
    let same : leb k (length (drop at text)) ≡ leb (at + k) (length text) = grind (arith, nat_tests) in
    ap (λ t. cond t (lines (drop k (drop at text))) []) same ∙ ap (λ bs. cond (leb (at + k) (length text)) (lines bs) []) (drop-drop k at text)

pub lines_on : (text : Bytes) (at : ℕ) → at ≤ length text
    → lines_from at text ≡ first_line (drop at text) ∷ lines_from (at + (length (first_line (drop at text)) + 1)) text
lines_on text at h =
    let rest = drop at text in
    let long : suc (prefix_len in_line rest) ≡ length (first_line rest) + 1 = omega (arith, first_length rest) in
    cond-true _ _ _ (le-leb at (length text) h) ∙ cut_first rest
    ∙ ap (λ k. first_line rest ∷ lines_from k rest) long
    ∙ ap (λ ls. first_line rest ∷ ls) (from_drop text at (length (first_line rest) + 1) h)

pub no_lines : (text : Bytes) (at : ℕ) → length text < at → lines_from at text ≡ []
no_lines text at h = cond-false _ _ _ (lt-leb at (length text) h)

-- f is the first line of what is left, as the checker reads it
module _ (text : Bytes) (at : ℕ) (f : Bytes) (h : at ≤ length text) (is : f ≡ first_line (take (length text - at) (drop at text))) where
  first_is : f ≡ first_line (drop at text)
  first_is = is ∙ ap first_line (take_rest text at)

  pub lines_next : lines_from at text ≡ f ∷ lines_from (at + (length f + 1)) text
  lines_next = lines_on text at h ∙ ap (λ l. l ∷ lines_from (at + (length l + 1)) text) (sym first_is)
