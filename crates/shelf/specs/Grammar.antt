-- Which fields make a shelf: records of M, a path, and V, a version, each with at most 64 pairs of R, a path, and W, a version. A field whose
-- tag may not come next damages the buffer; at a 65th R there is a row too many; else a path or a version may be bad. Assumes nothing.
use Rattle.std.specs.Prelude.{ℕ, ◌-◌, Bool, true, false, cond, is_ok, Ok, Err, Result, ◌==◌}
use Rattle.rules.specs.Orders.{Bytes}
use Rattle.rules.specs.Paths.{is_path}
use Rattle.rules.specs.Versions.{is_version}
use Rattle.rules.specs.Causes.{Cause, bad_path, bad_version, row_too_many, damaged_buffer}
use Rattle.fields.specs.Openings.{Opening, opened}
use Rattle.shelf.specs.declared.order.Expected.{Expected}
use Rattle.shelf.specs.declared.order.Expected.TheVariants.{Module, Version, Row, RowVersion}

-- the tags
abbrev pub tag_M : ℕ
tag_M = 77

abbrev pub tag_V : ℕ
tag_V = 86

abbrev pub tag_R : ℕ
tag_R = 82

abbrev pub tag_W : ℕ
tag_W = 87

abbrev pub path_then : Bytes → Expected → Result Expected Cause
path_then b w = cond (is_path b) (Ok w) (Err bad_path)

abbrev pub version_then : Bytes → Expected → Result Expected Cause
version_then b w = cond (is_version b) (Ok w) (Err bad_version)

-- with room for so many more rows
abbrev pub row_then : ℕ → Bytes → Result Expected Cause
row_then left b = cond (left == 0) (Err row_too_many) (path_then b (RowVersion (left - 1)))

-- what may come behind a field with the tag t and the bytes b
abbrev pub follow : Expected → ℕ → Bytes → Result Expected Cause
follow Module t b = cond (t == tag_M) (path_then b Version) (Err damaged_buffer)
follow Version t b = cond (t == tag_V) (version_then b (Row 64)) (Err damaged_buffer)
follow (Row left) t b = cond (t == tag_M) (path_then b Version) (cond (t == tag_R) (row_then left b) (Err damaged_buffer))
follow (RowVersion left) t b = cond (t == tag_W) (version_then b (Row left)) (Err damaged_buffer)

-- whether the buffer may end
abbrev pub may_end : Expected → Bool
may_end Module = true
may_end Version = false
may_end (Row left) = true
may_end (RowVersion left) = false

-- any buffer, opened as a shelf
unfoldable pub opening : Bytes → Opening
opening = opened follow may_end Module

abbrev pub is_shelf : Bytes → Bool
is_shelf bs = is_ok (opening bs)
