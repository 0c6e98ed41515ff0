-- The places of the code, told as those of the rules, and where on a sheet a row stands. Assumes nothing.
use Rattle.std.specs.Prelude.{ℕ, suc, cond, List, [], ◌∷◌, Some, None, Option}
use Rattle.std.specs.Option.{option_map}
use Rattle.rules.specs.Names.{ModuleVersion, same}
use Rattle.rules.specs.Walks as R
use Rattle.modules.specs.Rows.{row_names}
use Rattle.walks.specs.declared.place.Place.{Place}

abbrev pub place_of : Place → R.Place
place_of p = record { row = row_names p.row; from = p.from }

-- the first place of x among the rows of a sheet
abbrev pub place_in : List ModuleVersion → ModuleVersion → Option ℕ
place_in [] x = None
place_in (y ∷ ys) x = cond (same x y) (Some 0) (option_map suc (place_in ys x))
