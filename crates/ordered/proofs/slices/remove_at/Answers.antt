-- The items behind the place stand one place down. Assumes nothing.
use Rattle.std.proofs.Common.{arith, rules}
use Rattle.std.proofs.lemmas.List.{same_lists, places}
use Rattle.std.proofs.lemmas.Bool.{cases_lt}
use Rattle.ordered.proofs.slices.remove_at.Goals as goal

pub returns : goal.returns
returns g c = record {
  after = rw c.copy_within.ensures.after (same_lists _ _ (search (rules, places)) (λ k d h. grind (arith, places, cases_lt k c.args.at)));
}
