-- The names that the tables hold. Assumes nothing.
use Rattle.std.specs.Prelude.{List, map}
use Rattle.rules.specs.Orders.{Bytes}
use Rattle.rules.specs.Names.{ModuleVersion as Names}
use Rattle.ordered.specs.Held.{held}
use Rattle.versions.specs.Values.{plain_version_bytes}
use Rattle.modules.specs.Rows.{row_names}
use Rattle.modules.specs.declared.requirements.Requirements.{Requirements}
use Rattle.modules.specs.declared.exclusions.Exclusions.{Exclusions}
use Rattle.modules.specs.declared.listing.Listing.{Listing}

abbrev pub requirement_names : Requirements → List Names
requirement_names t = map row_names (held t.table)

abbrev pub exclusion_names : Exclusions → List Names
exclusion_names t = map row_names (held t.table)

abbrev pub listing_bytes : Listing → List Bytes
listing_bytes t = map plain_version_bytes (held t.table)
