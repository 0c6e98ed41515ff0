-- Paths, and their order. Assumes nothing.
-- A path is 1 to 48 bytes: elements joined by slashes. An element is one or more ASCII letters, digits, dashes, dots, underscores and
-- tildes, with no dot first or last.
use Rattle.std.specs.Prelude.{ℕ, Bool, false, not, ◌&&◌, ◌||◌, [], ◌∷◌, length, ◌==◌, nat_le}
use Rattle.std.specs.declared.cmp.Ordering.{Ordering}
use Rattle.rules.specs.Orders.{Bytes, dictionary}
use Rattle.rules.specs.Texts.{dash, dot, slash, underscore, tilde, digit, letter, every, pieces}

abbrev pub element_byte : ℕ → Bool
element_byte b = letter b || (digit b || (b == dash || (b == dot || (b == underscore || b == tilde))))

-- the last byte of b and what follows it
abbrev pub last_byte : ℕ → Bytes → ℕ
last_byte b [] = b
last_byte b (c ∷ cs) = last_byte c cs

abbrev pub is_element : Bytes → Bool
is_element [] = false
is_element (b ∷ bs) = every element_byte (b ∷ bs) && (not (b == dot) && not (last_byte b bs == dot))

abbrev pub is_path : Bytes → Bool
is_path bs = nat_le (length bs) 48 && every is_element (pieces slash bs)

-- by bytes, a prefix first
unfoldable pub path_order : Bytes → Bytes → Ordering
path_order = dictionary
