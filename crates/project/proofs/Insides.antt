-- What an exclude layer has inside: its table and what is below it means. Assumes nothing.
use Rattle.std.proofs.Common.{◌≡◌, List, [], ◌∷◌, ap}
use Rattle.source.specs.Insides.{Inside}

first : Inside → List Inside → Inside
first d [] = d
first d (x ∷ xs) = x

-- of two layers with the same inside the tables are the same, and what is below them means the same
pub same_exclusions : (x y : Inside) (xs ys : List Inside) → x ∷ xs ≡ y ∷ ys → x.exclusions ≡ y.exclusions
unfolding first
same_exclusions x y xs ys e = ap (λ l. (first x l).exclusions) e

pub same_below : (x y : Inside) (xs ys : List Inside) → x ∷ xs ≡ y ∷ ys → x.below ≡ y.below
unfolding first
same_below x y xs ys e = ap (λ l. (first x l).below) e
