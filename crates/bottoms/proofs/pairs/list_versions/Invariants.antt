-- What is left, entered into the listing so far, is the table of all. Assumes nothing.
use Rattle.std.proofs.Common.{◌≡◌, length}
use Rattle.rules.specs.Rows.{own}
use Rattle.rules.specs.Tables.{keep, entered_all}
use Rattle.rules.specs.Versions.{version_order}
use Rattle.modules.specs.Tables.{listing_bytes}
use Rattle.fields.specs.Pairs.{pairs_in}
use Rattle.bottoms.specs.Items.{versions_in, version_table}
use Rattle.bottoms.proofs.pairs.list_versions.Given as goal

abbrev pub invariant-loop-pair : goal.invariant-loop-pair
invariant-loop-pair g l =
    version_table (versions_in g.P.Pairs.held l.path (pairs_in l.bytes))
    ≡ entered_all own version_order keep (listing_bytes l.listing) (versions_in g.P.Pairs.held l.path (pairs_in l.rest))

abbrev pub decreases-loop-pair : goal.decreases-loop-pair
decreases-loop-pair g l = length l.rest
