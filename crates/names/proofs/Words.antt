-- What `cmp` answers on bytes is the order of texts by their bytes. Assumes nothing.
use Rattle.std.proofs.Common.{◌≡◌, ℕ, List, [], ◌∷◌, Ordering, refl, ◌∙◌, ap₂}
use Rattle.std.specs.Ordering.{nat_cmp, ordering_then}
use Rattle.std.specs.Cmp.Lexicographic.{slice_cmp}
use Rattle.rules.specs.Orders.{number_order, lexical, dictionary}

by_says : (a b : ℕ) → nat_cmp a b ≡ number_order a b
by_says a b = refl

pub cmp_dictionary : (xs ys : List ℕ) (r : Ordering) → r ≡ slice_cmp nat_cmp xs ys → r ≡ dictionary xs ys
unfolding lexical
cmp_dictionary xs ys r e = e ∙ same xs ys
  where
    same : (xs ys : List ℕ) → slice_cmp nat_cmp xs ys ≡ dictionary xs ys
    same [] [] = refl
    same [] (y ∷ ys) = refl
    same (x ∷ xs) [] = refl
    same (x ∷ xs) (y ∷ ys) = ap₂ ordering_then (by_says x y) (same xs ys)
