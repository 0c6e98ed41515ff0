-- The edges that were learned are those gone over. Assumes nothing.
use Rattle.std.proofs.Common.{sym, subst}
use Rattle.lowers.specs.Spreads.{Narrow}
use Rattle.lowers.proofs.learned.Learned.spread_once.Goals as goal

pub spread_over-requires : goal.spread_over-requires
spread_over-requires c = (c.args.self.now.wide, subst Narrow (sym c.as_slice.ensures.value) c.requires)
