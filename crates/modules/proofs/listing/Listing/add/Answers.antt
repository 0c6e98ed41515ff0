use Rattle.std.proofs.Common.{map, refl, ap, ◌∙◌}
use Rattle.rules.specs.Versions.{version_order}
use Rattle.rules.specs.Rows.{own}
use Rattle.rules.specs.Tables.{keep}
use Rattle.rules.proofs.Tables.{map_entered}
use Rattle.versions.specs.Values.{plain_version_bytes, plain_version_order}
use Rattle.ordered.specs.Held.{held}
use Rattle.modules.proofs.Kept.{same_listing}
use Rattle.modules.proofs.Lifted.{admitted_named}
use Rattle.modules.proofs.listing.Listing.add.Goals as goal

pub returns : goal.returns
returns c =
    let t = held c.args.self.now.table in
    let v = c.args.version in
    record {
      value = admitted_named own plain_version_order own version_order plain_version_bytes 64 v (plain_version_bytes v) (λ y. refl) t c.insert.result c.insert.ensures.value;
      after = λ ok. ap (map plain_version_bytes) (c.insert.ensures.after ok) ∙ map_entered own plain_version_order own version_order plain_version_bytes (λ a b. refl) keep keep (λ a b. refl) v t;
      refused = λ no. same_listing _ _ (c.insert.ensures.refused no);
    }
