-- What is written in a lent slice. Assumes nothing.
use Rattle.std.specs.Prelude.{List, take}
use Rattle.walks.specs.declared.filling.Filling.{Filling}

-- the items of a filling, from the first on
abbrev pub items_of : {T : Type 0} → Filling T → List T
items_of f = take f.count f.items.now
