-- Texts without upper-case letters: each is written as an exclamation mark and the lower-case letter. Assumes nothing.
use Rattle.std.specs.Prelude.{ℕ, ◌+◌, ◌-◌, Bool, cond, ◌&&◌, [], ◌∷◌, ◌++◌, Some, None, Option, ◌==◌, nat_le}
use Rattle.std.specs.Option.{option_map}
use Rattle.rules.specs.Orders.{Bytes}

-- the exclamation mark
abbrev pub mark : ℕ
mark = 33

abbrev pub is_upper : ℕ → Bool
is_upper b = nat_le 65 b && nat_le b 90

abbrev pub is_lower : ℕ → Bool
is_lower b = nat_le 97 b && nat_le b 122

-- how a byte is written
abbrev pub written : ℕ → Bytes
written b = cond (is_upper b) (mark ∷ (b + 32) ∷ []) (b ∷ [])

abbrev pub escaped : Bytes → Bytes
escaped [] = []
escaped (b ∷ bs) = written b ++ escaped bs

-- the byte that is written first, and what stands behind it
pub record LetterCut : Type 0 where
  pub byte : ℕ
  pub after : Bytes

abbrev pub behind_mark : Bytes → Option LetterCut
behind_mark [] = None
behind_mark (c ∷ bs) = cond (is_lower c) (Some (record { byte = c - 32; after = bs })) None

abbrev pub letter_of : Bytes → Option LetterCut
letter_of [] = None
letter_of (b ∷ bs) = cond (b == mark) (behind_mark bs) (cond (is_upper b) None (Some (record { byte = b; after = bs })))

-- what is written; none if it is no text that is written so
abbrev pub unescaped : Bytes → Option Bytes
unescaped [] = Some []
unescaped (b ∷ []) = cond (b == mark) None (cond (is_upper b) None (Some (b ∷ [])))
unescaped (b ∷ c ∷ bs) =
    cond (b == mark)
    (cond (is_lower c) (option_map (λ t. (c - 32) ∷ t) (unescaped bs)) None)
    (cond (is_upper b) None (option_map (λ t. b ∷ t) (unescaped (c ∷ bs))))
