-- A manifest read from its lines as they are told, by number and code. Assumes nothing.
use Rattle.std.proofs.Common.{◌≡◌, ℕ, ◌+◌, List, [], ◌∷◌, Ok, Err, Result, refl}
use Rattle.rules.specs.Orders.{Bytes}
use Rattle.rules.specs.Causes as R
use Rattle.rules.specs.Lines.{code}
use Rattle.rules.specs.Manifests.{Progress, Reading, at_end, read_on, lines_read}
use Rattle.lexer.specs.Lefts.{numbered}
use Rattle.manifest.specs.Views.{code_read}

abbrev pub told_read : ℕ → Progress → List (ℕ × Bytes) → Reading
told_read most p [] = at_end p
told_read most p (x ∷ xs) = read_on (λ q. told_read most q xs) x.0 (code_read most p x.1)

pub read_as_told : (most n : ℕ) (p : Progress) (ls : List Bytes) → lines_read most n p ls ≡ told_read most p (numbered n ls)
read_as_told most n p [] = refl
read_as_told most n p (l ∷ ls) = go (λ q. read_as_told most (n + 1) q ls) (code_read most p (code l))
  where
    go : ((q : Progress) → lines_read most (n + 1) q ls ≡ told_read most q (numbered (n + 1) ls)) → (r : Result Progress R.Cause)
        → read_on (λ q. lines_read most (n + 1) q ls) (n + 1) r ≡ read_on (λ q. told_read most q (numbered (n + 1) ls)) (n + 1) r
    go below (Ok q) = below q
    go below (Err c) = refl
