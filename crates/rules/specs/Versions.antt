-- Versions, and their order: SemVer precedence. Assumes nothing.
-- A version is at most 40 bytes: v, three numbers joined by dots, then perhaps a dash and identifiers joined by dots. A number is 0, or
-- decimal digits with no zero in front. An identifier is one or more ASCII letters, digits and dashes; one that is all digits is a number.
use Rattle.std.specs.Prelude.{ℕ, ◌+◌, ◌-◌, ◌*◌, Bool, false, cond, not, ◌&&◌, ◌||◌, List, [], ◌∷◌, map, length, Some, None, Option, ◌==◌, nat_le}
use Rattle.std.specs.declared.cmp.Ordering.TheVariants.{Less, Equal, Greater}
use Rattle.std.specs.declared.cmp.Ordering.{Ordering}
use Rattle.std.specs.Ordering.{is_lt, ordering_then}
use Rattle.rules.specs.Orders.{Bytes, number_order, lexical, dictionary, keyed, none_first}
use Rattle.rules.specs.Texts.{dash, dot, digit, letter, every, pieces}

-- ---- which texts are versions

abbrev pub is_number : Bytes → Bool
is_number [] = false
is_number (b ∷ []) = digit b
is_number (b ∷ c ∷ bs) = not (b == 48) && every digit (b ∷ c ∷ bs)

abbrev pub identifier_byte : ℕ → Bool
identifier_byte b = digit b || (letter b || b == dash)

-- an identifier that is not all digits
abbrev pub is_word : Bytes → Bool
is_word [] = false
is_word (b ∷ bs) = not (every digit (b ∷ bs)) && every identifier_byte (b ∷ bs)

abbrev pub is_identifier : Bytes → Bool
is_identifier p = is_number p || is_word p

-- what stands before the first dash, and the pieces of what stands behind it; without a dash there are no such pieces
abbrev pub before_dash : Bytes → Bytes
before_dash [] = []
before_dash (b ∷ bs) = cond (b == dash) [] (b ∷ before_dash bs)

abbrev pub behind_dash : Bytes → List Bytes
behind_dash [] = []
behind_dash (b ∷ bs) = cond (b == dash) (pieces dot bs) (behind_dash bs)

-- the texts that may follow the v
abbrev pub is_release : Bytes → Bool
is_release bs = (length (pieces dot (before_dash bs)) == 3 && every is_number (pieces dot (before_dash bs))) && every is_identifier (behind_dash bs)

abbrev pub is_version : Bytes → Bool
is_version [] = false
is_version (b ∷ bs) = b == 118 && (nat_le (length (b ∷ bs)) 40 && is_release bs)

-- ---- a version in its parts

pub data Identifier : Type 0 where
  numeric : ℕ → Identifier
  word : Bytes → Identifier

pub record Parts : Type 0 where
  pub numbers : List ℕ
  pub identifiers : List Identifier

-- the value of decimal digits, behind digits of the value n
abbrev pub value : ℕ → Bytes → ℕ
value n [] = n
value n (b ∷ bs) = value (n * 10 + (b - 48)) bs

abbrev pub identifier : Bytes → Identifier
identifier bs = cond (every digit bs) (numeric (value 0 bs)) (word bs)

abbrev pub parts_behind : Bytes → Parts
parts_behind bs = record { numbers = map (value 0) (pieces dot (before_dash bs)); identifiers = map identifier (behind_dash bs) }

abbrev pub parts : Bytes → Parts
parts [] = record { numbers = []; identifiers = [] }
parts (b ∷ bs) = parts_behind bs

-- the parts of a version; none of any other text
unfoldable pub parted : Bytes → Option Parts
parted bs = cond (is_version bs) (Some (parts bs)) None

-- ---- precedence

-- numbers by their value, a number below a word, words by their bytes
abbrev pub identifier_order : Identifier → Identifier → Ordering
identifier_order (numeric a) (numeric b) = number_order a b
identifier_order (numeric a) (word w) = Less
identifier_order (word v) (numeric b) = Greater
identifier_order (word v) (word w) = dictionary v w

-- from the left, a shorter row that is the same so far below; no identifiers above all
abbrev pub identifiers_order : List Identifier → List Identifier → Ordering
identifiers_order [] [] = Equal
identifiers_order [] (y ∷ ys) = Greater
identifiers_order (x ∷ xs) [] = Less
identifiers_order (x ∷ xs) (y ∷ ys) = lexical identifier_order (x ∷ xs) (y ∷ ys)

-- the three numbers from the left, then the identifiers
abbrev pub precedence : Parts → Parts → Ordering
precedence a b = ordering_then (lexical number_order a.numbers b.numbers) (identifiers_order a.identifiers b.identifiers)

-- The order of all texts in which versions stand by precedence. What is no version is below every version, and two that are none stand by
-- their bytes: so tables may hold any text.
unfoldable pub version_order : Bytes → Bytes → Ordering
version_order = keyed parted (none_first precedence) dictionary

-- Whether a text is newer than another: by precedence alone, what is no version being below all that are. Of two that are none, neither is newer.
abbrev pub is_newer : Bytes → Bytes → Bool
is_newer a b = is_lt (none_first precedence (parted b) (parted a))
