-- Why a question or a call is refused. A cause has a number, by which it is told outside. A source answers with a fault: a cause, the place of
-- which it speaks (a line of a text, an offset of a buffer), and the depth, how many layers down it arose. A call answers with a refusal: the
-- same, and the place of the sheet that was questioned. Assumes nothing.
use Rattle.std.specs.Prelude.{ℕ, Bool, ◌==◌}

pub data Cause : Type 0 where
  -- of a text
  too_long : Cause
  bad_byte : Cause
  wrong_shape : Cause
  bad_path : Cause
  bad_version : Cause
  -- a second module line, or none
  module_line : Cause
  row_too_many : Cause
  -- of a source; missing: there is no such manifest
  missing : Cause
  damaged_buffer : Cause
  too_many_to_list : Cause
  -- of a call
  slice_too_short : Cause
  -- a 257th place is needed
  too_many_module_versions : Cause
  table_full : Cause
  nothing_to_change : Cause

-- the number by which it is told
abbrev pub number : Cause → ℕ
number too_long = 1
number bad_byte = 2
number wrong_shape = 3
number bad_path = 4
number bad_version = 5
number module_line = 6
number row_too_many = 7
number missing = 8
number damaged_buffer = 9
number too_many_to_list = 10
number slice_too_short = 11
number too_many_module_versions = 12
number table_full = 13
number nothing_to_change = 14

-- There is no such manifest: a fallback then asks its second source, and to lower it is no fault.
abbrev pub is_missing : Cause → Bool
is_missing c = number c == number missing

-- why a source gives no answer
pub record Fault : Type 0 where
  pub cause : Cause
  pub place : ℕ
  pub depth : ℕ

-- why a call is refused; zero where nothing is named
pub record Refusal : Type 0 where
  pub cause : Cause
  pub place : ℕ
  pub depth : ℕ
  pub sheet_place : ℕ
