-- The items from the place on stand one place up, and the new one in the gap. Assumes nothing.
use Rattle.std.proofs.Common.{arith, rules}
use Rattle.std.proofs.lemmas.List.{same_lists, places, get_or-set_same}
use Rattle.std.proofs.lemmas.Bool.{cases_eq}
use Rattle.ordered.proofs.slices.insert_at.Goals as goal

pub returns-then-count-items-clause-after : goal.returns-then-count-items-clause-after
returns-then-count-items-clause-after g c = λ at_most room.
    rw c.copy_within.ensures.after (same_lists _ _ (search (rules, places)) (λ k d h. grind (arith, places, get_or-set_same, cases_eq k c.args.at)))
