-- Which bytes are brackets. Assumes nothing.
use Rattle.std.specs.Prelude.{ℕ, Bool, ◌||◌, ◌==◌}

-- ( or )
abbrev pub bracket_byte : ℕ → Bool
bracket_byte b = b == 40 || b == 41
