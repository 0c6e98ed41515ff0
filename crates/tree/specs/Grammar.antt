-- Which fields make a tree: pairs of N, a file name, and B, a body, each of any bytes. Assumes nothing.
use Rattle.std.specs.Prelude.{ℕ, Bool, true, false, cond, is_ok, Ok, Err, Result, ◌==◌}
use Rattle.rules.specs.Orders.{Bytes}
use Rattle.rules.specs.Causes.{Cause, damaged_buffer}
use Rattle.fields.specs.Openings.{Opening, opened}
use Rattle.tree.specs.declared.order.Expected.{Expected}
use Rattle.tree.specs.declared.order.Expected.TheVariants.{Name, Body}

-- the tags
abbrev pub tag_N : ℕ
tag_N = 78

abbrev pub tag_B : ℕ
tag_B = 66

-- what may come behind a field with the tag t and the bytes b
abbrev pub follow : Expected → ℕ → Bytes → Result Expected Cause
follow Name t b = cond (t == tag_N) (Ok Body) (Err damaged_buffer)
follow Body t b = cond (t == tag_B) (Ok Name) (Err damaged_buffer)

-- whether the buffer may end
abbrev pub may_end : Expected → Bool
may_end Name = true
may_end Body = false

-- any buffer, opened as a tree
unfoldable pub opening : Bytes → Opening
opening = opened follow may_end Name

abbrev pub is_tree : Bytes → Bool
is_tree bs = is_ok (opening bs)
