-- What a lent slice holds while a manifest is read: the rows read so far, and then blanks. Assumes nothing.
use Rattle.std.specs.Prelude.{◌≡◌, ℕ, ◌-◌, ◌≤◌, List, map, length, take, drop, replicate}
use Rattle.rules.specs.Names.{ModuleVersion}
use Rattle.rules.specs.Slices.{blank, filled}
use Rattle.modules.specs.declared.rows.Row.{Row}
use Rattle.modules.specs.Rows.{row_names}

-- the module versions that rows name
abbrev pub names_in : List Row → List ModuleVersion
names_in = map row_names

-- the first n of them
abbrev pub names_read : ℕ → List Row → List ModuleVersion
names_read n rows = take n (names_in rows)

-- a slice is left with rows of these names, and blanks behind them
abbrev pub Left : List Row → List Row → List ModuleVersion → Type 0
Left before after xs = names_in after ≡ filled blank (length before) xs

-- n rows, of at most so many, stand in front of blanks
pub record Holds (most n : ℕ) (rows : List Row) : Type 0 where
  pub within : n ≤ most
  pub room : most ≤ length rows
  pub behind : drop n (names_in rows) ≡ replicate (length rows - n) blank
