-- The order of versions obeys the laws, and a version can be held. Assumes nothing.
use Rattle.std.specs.Prelude.{◌≡◌, ◌≤◌, true, [], ◌∷◌, length}
use Rattle.std.proofs.Common.{rules}
use Rattle.rules.specs.Orders.{Bytes, Laws}
use Rattle.rules.specs.Versions.{is_version, version_order}
use Rattle.rules.proofs.Order.{versions, laws_of}

pub lawful : Laws version_order
lawful = laws_of versions

pub short : (text : Bytes) → is_version text ≡ true → length text ≤ 48
short [] e = search rules
short (b ∷ bs) e = search rules
