-- Opening a buffer. More than 65,536 bytes are too long. Else it is read field by field, and the first fault refuses it, at the offset of the
-- first byte of the field: the buffer is damaged if a field is cut, if its tag is none of those that may come next, or, at the buffer's end, if
-- one is missing. What else may be wrong with a field is said by its kind of buffer. Assumes nothing.
use Rattle.std.specs.Prelude.{ℕ, ◌+◌, Bool, cond, List, [], ◌∷◌, length, Ok, Err, Result, nat_le}
use Rattle.rules.specs.Orders.{Bytes}
use Rattle.rules.specs.Causes.{Cause, too_long, damaged_buffer, Refusal}
use Rattle.causes.specs.Told.{of_place}
use Rattle.fields.specs.Fields.{Piece, whole, torn, pieces}

-- a buffer is accepted, or refused
abbrev pub Opening : Type 0
Opening = Result (Unit {0}) Refusal

abbrev pub refused_at : ℕ → Cause → Opening
refused_at place c = Err (of_place c place)

-- W says which fields may come next; `follow` what may come behind a field with a tag and bytes, or why it may not stand there; `may_end`
-- whether the buffer may end there.
module _ {W : Type 0} (follow : W → ℕ → Bytes → Result W Cause) (may_end : W → Bool) where
  abbrev pub opened_on : (W → Opening) → ℕ → Result W Cause → Opening
  opened_on next place (Ok w) = next w
  opened_on next place (Err c) = refused_at place c

  -- the pieces from an offset on
  abbrev pub opened_from : W → ℕ → List Piece → Opening
  opened_from w place [] = cond (may_end w) (Ok tt) (refused_at place damaged_buffer)
  opened_from w place (torn ∷ ps) = refused_at place damaged_buffer
  opened_from w place (whole t b ∷ ps) = opened_on (λ v. opened_from v (place + 3 + length b) ps) place (follow w t b)

  -- the whole buffer
  unfoldable pub opened : W → Bytes → Opening
  opened start bs = cond (nat_le (length bs) 65536) (opened_from start 0 (pieces bs)) (refused_at 0 too_long)
