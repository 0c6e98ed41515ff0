-- The two slices that list and lower are lent, for the sheet and for the list, and what they hold after the call: the places or rows written,
-- and then blanks. Both must have 256 places at least. Assumes nothing.
use Rattle.std.specs.Prelude.{ℕ, ◌-◌, ◌<◌, Bool, ◌&&◌, ◌⊎◌, List, ◌++◌, length, take, replicate, codes, nat_le}
use Rattle.rules.specs.Orders.{Bytes}
use Rattle.rules.specs.Names.{ModuleVersion}
use Rattle.rules.specs.Walks.{Place}

-- the blank version, the blank row, and the blank place of a sheet
abbrev pub blank_version : Bytes
blank_version = codes "v0.0.0"

abbrev pub blank : ModuleVersion
blank = record { path = codes "_"; version = blank_version }

abbrev pub blank_place : Place
blank_place = record { row = blank; from = 0 }

-- how long the two slices are
pub record Lent : Type 0 where
  pub sheet : ℕ
  pub list : ℕ

-- both have 256 places at least
abbrev pub long_enough : Lent → Bool
long_enough n = nat_le 256 n.sheet && nat_le 256 n.list

-- one of them has fewer
abbrev pub TooShort : Lent → Type 0
TooShort n = (n.sheet < 256) ⊎ (n.list < 256)

-- what the two slices hold
pub record Slices : Type 0 where
  pub sheet : List Place
  pub list : List ModuleVersion

-- a slice of n places that holds xs, and then blanks
abbrev pub filled : {A : Type 0} → A → ℕ → List A → List A
filled none n xs = xs ++ replicate (n - length xs) none

-- Of a sheet that needs a 257th place the first 256 are written.
abbrev pub holding : Lent → List Place → List ModuleVersion → Slices
holding n sheet list = record { sheet = filled blank_place n.sheet (take 256 sheet); list = filled blank n.list list }
