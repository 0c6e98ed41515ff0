-- Texts as lists of bytes: the kinds of bytes, and the pieces of a text. Assumes nothing.
use Rattle.std.specs.Prelude.{ℕ, Bool, true, cond, ◌&&◌, ◌||◌, List, [], ◌∷◌, ◌==◌, nat_le}
use Rattle.rules.specs.Orders.{Bytes}

abbrev pub dash : ℕ
dash = 45

abbrev pub dot : ℕ
dot = 46

abbrev pub slash : ℕ
slash = 47

abbrev pub underscore : ℕ
underscore = 95

abbrev pub tilde : ℕ
tilde = 126

-- 0 to 9
abbrev pub digit : ℕ → Bool
digit b = nat_le 48 b && nat_le b 57

-- A to Z and a to z
abbrev pub letter : ℕ → Bool
letter b = (nat_le 65 b && nat_le b 90) || (nat_le 97 b && nat_le b 122)

abbrev pub every : {A : Type 0} → (A → Bool) → List A → Bool
every test [] = true
every test (x ∷ xs) = test x && every test xs

-- a first piece that begins with b
abbrev pub begun : ℕ → List Bytes → List Bytes
begun b [] = (b ∷ []) ∷ []
begun b (p ∷ ps) = (b ∷ p) ∷ ps

-- The pieces of a text: what stands between the bytes that are the separator. There is one more of them than there are separators.
abbrev pub pieces : ℕ → Bytes → List Bytes
pieces separator [] = [] ∷ []
pieces separator (b ∷ bs) = cond (b == separator) ([] ∷ pieces separator bs) (begun b (pieces separator bs))
