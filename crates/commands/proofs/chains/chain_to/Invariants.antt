-- What was met, and then what is still to be met, is the whole trail. Assumes nothing.
use Rattle.std.proofs.Common.{◌≡◌, ◌-◌, ◌++◌, map, length, vec_items}
use Rattle.rules.specs.Walks.{trail}
use Rattle.modules.specs.Rows.{row_names}
use Rattle.walks.specs.Places.{place_of}
use Rattle.commands.proofs.chains.chain_to.Given as goal

abbrev pub invariant-loop : goal.invariant-loop
invariant-loop l = map row_names (vec_items l.rows) ++ trail (length l.sheet - l.counter) (map place_of l.sheet) l.at ≡ trail (length l.sheet) (map place_of l.sheet) l.place
