-- The order of paths obeys the laws, and a path can be held. Assumes nothing.
use Rattle.std.specs.Prelude.{◌≡◌, ◌≤◌, true, length}
use Rattle.std.proofs.Common.{rules}
use Rattle.rules.specs.Orders.{Bytes, Laws}
use Rattle.rules.specs.Paths.{is_path, path_order}
use Rattle.rules.proofs.Order.{paths, laws_of}

pub lawful : Laws path_order
lawful = laws_of paths

pub short : (text : Bytes) → is_path text ≡ true → length text ≤ 48
short text e = search rules
