-- Orders: what every order of the subject obeys, and the ways to build one. Assumes nothing.
-- An order of A answers for any two whether the first is below the second (Less), the same (Equal) or above it (Greater).
use Rattle.std.specs.Prelude.{◌≡◌, ℕ, true, cond, ◌⊎◌, List, [], ◌∷◌, Some, None, Option, ◌==◌, nat_lt}
use Rattle.std.specs.declared.cmp.Ordering.TheVariants.{Less, Equal, Greater}
use Rattle.std.specs.declared.cmp.Ordering.{Ordering}
use Rattle.std.specs.Ordering.{is_le, ordering_then, ordering_reverse}

-- a text: the list of its bytes
abbrev pub Bytes : Type 0
Bytes = List ℕ

-- a is at or below b
abbrev pub AtOrBelow : {A : Type 0} → (A → A → Ordering) → A → A → Type 0
AtOrBelow order a b = is_le (order a b) ≡ true

-- The laws of an order. Of two things one is at or below the other; two that are each at or below the other are the same (of texts:
-- have the same bytes); the order is transitive; and the answer for two is told by the answer for the two the other way round.
pub record Laws {A : Type 0} (order : A → A → Ordering) : Type 0 where
  pub total : (a b : A) → AtOrBelow order a b ⊎ AtOrBelow order b a
  pub antisymmetric : (a b : A) → AtOrBelow order a b → AtOrBelow order b a → a ≡ b
  pub transitive : (a b c : A) → AtOrBelow order a b → AtOrBelow order b c → AtOrBelow order a c
  pub mirrored : (a b : A) → order b a ≡ ordering_reverse (order a b)

-- The same laws by Less and Equal, the form that proofs use.
pub record Total {A : Type 0} (order : A → A → Ordering) : Type 0 where
  pub same : (a : A) → order a a ≡ Equal
  pub apart : (a b : A) → order a b ≡ Equal → a ≡ b
  pub back : (a b : A) → order b a ≡ ordering_reverse (order a b)
  pub on : (a b c : A) → order a b ≡ Less → order b c ≡ Less → order a c ≡ Less

-- numbers by their value
abbrev pub number_order : ℕ → ℕ → Ordering
number_order a b = cond (nat_lt a b) Less (cond (a == b) Equal Greater)

-- lists by the first members that differ; a list that another begins with is below it
unfoldable pub lexical : {A : Type 0} → (A → A → Ordering) → List A → List A → Ordering
lexical by [] [] = Equal
lexical by [] (y ∷ ys) = Less
lexical by (x ∷ xs) [] = Greater
lexical by (x ∷ xs) (y ∷ ys) = ordering_then (by x y) (lexical by xs ys)

-- texts by their bytes, a prefix first
abbrev pub dictionary : Bytes → Bytes → Ordering
dictionary = lexical number_order

-- By a key, and where the keys are the same by the rest. With the bytes themselves for the rest, only equal bytes are equal, whatever the key.
abbrev pub keyed : {A B : Type 0} → (A → B) → (B → B → Ordering) → (A → A → Ordering) → A → A → Ordering
keyed key by rest a b = ordering_then (by (key a) (key b)) (rest a b)

-- nothing is below all that is something
abbrev pub none_first : {A : Type 0} → (A → A → Ordering) → Option A → Option A → Ordering
none_first by None None = Equal
none_first by None (Some b) = Less
none_first by (Some a) None = Greater
none_first by (Some a) (Some b) = by a b
