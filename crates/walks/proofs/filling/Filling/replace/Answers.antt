-- The items in front of the count, with one of them set. Assumes nothing.
use Rattle.std.proofs.Common.{arith}
use lib.Seq.{take-set-lt}
use Rattle.walks.proofs.Fillings.{items_long}
use Rattle.walks.proofs.filling.Filling.replace.Goals as goal

pub returns-clause-after : goal.returns-clause-after
returns-clause-after g c = take-set-lt c.args.self.now.count c.args.self.now.items.now c.args.at c.args.item (omega (arith, c.requires.place, items_long c.args.self.now))
