-- What a table holds, and what its edits answer. Assumes nothing.
use Rattle.std.specs.Prelude.{ℕ, Bool, true, false, List, length, take, Some, None, Ok, Err, Option, Result, nat_le}
use Rattle.std.specs.Bool.{then_some}
use Rattle.ordered.specs.declared.table.Table.{Table}
use Rattle.ordered.specs.declared.table.NotInserted.{NotInserted}
use Rattle.ordered.specs.declared.table.NotInserted.TheVariants.{Present, Full}

module _ {T : Type 0} {n : ℕ} where
  -- the items of a table, from the first on
  abbrev pub held : Table T n → List T
  held t = take t.count t.items

-- what an insertion answers, by what stands at its key and by whether there is room for one more item
abbrev pub admitted : {A : Type 0} → Option A → Bool → Result (Unit {0}) NotInserted
admitted (Some old) room = Err Present
admitted None true = Ok tt
admitted None false = Err Full

-- where a new item meets an old one of its key, the old one gives way
abbrev pub give : {A : Type 0} → A → A → A
give new old = new

-- a list of at most n items
abbrev pub fitting : {A : Type 0} → ℕ → List A → Option (List A)
fitting n xs = then_some (nat_le (length xs) n) xs
