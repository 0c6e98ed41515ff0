-- The text of a manifest as lines, and a line as words. Assumes nothing.
-- A line ends at a line feed or at the end of the text. A comment runs from the first two slashes of a line to its end. Space, tab and
-- carriage return part words; a bracket is a word by itself.
use Rattle.std.specs.Prelude.{ℕ, Bool, true, false, cond, not, ◌&&◌, ◌||◌, List, [], ◌∷◌, ◌==◌}
use Rattle.rules.specs.Orders.{Bytes}
use Rattle.rules.specs.Texts.{slash, pieces}

-- The first is line 1. A text that ends in a line feed has an empty last line.
abbrev pub lines : Bytes → List Bytes
lines = pieces 10

-- a line without its comment
abbrev pub code : Bytes → Bytes
code [] = []
code (b ∷ []) = b ∷ []
code (b ∷ c ∷ bs) = cond (b == slash && c == slash) [] (b ∷ code (c ∷ bs))

-- space, tab or carriage return
abbrev pub gap : ℕ → Bool
gap b = b == 32 || (b == 9 || b == 13)

-- a byte of a word that is no bracket
abbrev pub word_byte : ℕ → Bool
word_byte b = not (gap b || (b == 40 || b == 41))

pub data Word : Type 0 where
  text : Bytes → Word
  -- ( and )
  opening : Word
  closing : Word

-- whether a text begins with a byte of a word
abbrev pub goes_on : Bytes → Bool
goes_on [] = false
goes_on (b ∷ bs) = word_byte b

-- the byte b in front of the words of what follows it: the first of them goes on with b, or b is a word of its own
abbrev pub lengthened : ℕ → Bool → List Word → List Word
lengthened b false ws = text (b ∷ []) ∷ ws
lengthened b true [] = text (b ∷ []) ∷ []
lengthened b true (text w ∷ ws) = text (b ∷ w) ∷ ws
lengthened b true (opening ∷ ws) = text (b ∷ []) ∷ opening ∷ ws
lengthened b true (closing ∷ ws) = text (b ∷ []) ∷ closing ∷ ws

abbrev pub words : Bytes → List Word
words [] = []
words (b ∷ bs) =
    cond (gap b) (words bs)
    (cond (b == 40) (opening ∷ words bs)
    (cond (b == 41) (closing ∷ words bs)
    (lengthened b (goes_on bs) (words bs))))
