use Rattle.std.proofs.Common.{◌≡◌, List, map, refl, ap, ◌∙◌}
use Rattle.std.specs.Option.{option_map}
use Rattle.ordered.specs.Held.{held, fitting}
use Rattle.rules.specs.Versions.{version_order}
use Rattle.rules.specs.Rows.{own, joined_versions}
use Rattle.rules.specs.Tables.{joined}
use Rattle.rules.proofs.Tables.{map_joined}
use Rattle.versions.specs.Values.{PlainVersion, plain_version_bytes, plain_version_order}
use Rattle.modules.proofs.Lifted.{fitting_map}
use Rattle.modules.proofs.listing.Listing.join.Goals as goal

-- the joining of what the versions stand for
named : (t u : List PlainVersion) → option_map (map plain_version_bytes) (fitting 64 (joined own plain_version_order t u)) ≡ fitting 64 (joined_versions (map plain_version_bytes t) (map plain_version_bytes u))
named t u =
    fitting_map 64 plain_version_bytes (joined own plain_version_order t u)
    ∙ ap (fitting 64) (map_joined own plain_version_order own version_order plain_version_bytes (λ a b. refl) t u)

pub returns-in_err-table : goal.returns-in_err-table
returns-in_err-table c =
    let t = held c.args.self.now.table in
    rw c.from_residual.ensures (ap (option_map (map plain_version_bytes)) c.in_err-table.ensures.value ∙ named t c.args.other.now)

pub returns : goal.returns
returns c =
    let t = held c.args.self.now.table in
    ap (option_map (map plain_version_bytes)) c.in_ok-table.ensures.value ∙ named t c.args.other.now
