-- The theorems are proved in Listing. Assumes nothing.
use Rattle.walks.proofs.Listing.{walk_right, list_right}
use Rattle.walks.proofs.list.walks_stand.Goals as goal

pub returns : goal.returns
returns c = (walk_right, list_right)
