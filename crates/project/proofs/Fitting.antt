-- A table of no more rows than it has room for holds them all. Assumes nothing.
use Rattle.std.proofs.Common.{◌≡◌, ℕ, ◌≤◌, List, length, Some, None, Option, sym, refl, ap, ◌∙◌, arith}
use Rattle.std.proofs.lemmas.Bool.{le-leb}
use Rattle.std.specs.Bool.{then_some}
use Rattle.std.specs.Option.{option_map, IsSome}
use Rattle.rules.specs.Names.{ModuleVersion}
use Rattle.ordered.specs.Held.{fitting}

module _ {A : Type 0} (rows : A → List ModuleVersion) (n : ℕ) (xs : List ModuleVersion) (few : length xs ≤ n) where
  all : fitting n xs ≡ Some xs
  all = ap (λ b. then_some b xs) (le-leb (length xs) n few)

  pub there : (o : Option A) → option_map rows o ≡ fitting n xs → IsSome o
  there (Some t) e = refl
  there None e = let r = all in let z : ◌≡◌ {A = ℕ} 0 1 = cc in absurd (omega arith)

  pub holds_all : (o : Option A) (t : A) → option_map rows o ≡ fitting n xs → o ≡ Some t → rows t ≡ xs
  holds_all o t e is = let r = sym (ap (option_map rows) is) ∙ e ∙ all in cc
