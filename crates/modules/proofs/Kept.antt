-- Two wrapped tables with the same table are the same. Assumes nothing.
use Rattle.std.proofs.Common.{◌≡◌}
use mathlib.Core.HLevel.{is_prop→PathP}
use denote.Param.{number}
use Rattle.ordered.specs.contracts.table.Table.{the_row as table_row}
use Rattle.names.specs.contracts.formed.Plain.{the_row as plain_row}
use Rattle.versions.specs.contracts.version.Versions.{the_row as kind_row}
use Rattle.modules.specs.contracts.rows.Row.{the_row as row_row}
use Rattle.modules.specs.contracts.exclusions.Exclusions as E
use Rattle.modules.specs.contracts.requirements.Requirements as R
use Rattle.modules.specs.contracts.listing.Listing as L
use Rattle.modules.specs.declared.exclusions.Exclusions.{Exclusions}
use Rattle.modules.specs.declared.requirements.Requirements.{Requirements}
use Rattle.modules.specs.declared.listing.Listing.{Listing}

pub same_exclusions : (a b : Exclusions) → a.table ≡ b.table → a ≡ b
same_exclusions a b e i =
    (E.struct).make (e i, tt) (is_prop→PathP (λ j. E.the_ghost (e j, tt)) (λ j. E.the_propositions (table_row row_row (number 32)).coded row_row.coded (e j, tt)) ((E.struct).ghosts a) ((E.struct).ghosts b) i)

pub same_requirements : (a b : Requirements) → a.table ≡ b.table → a ≡ b
same_requirements a b e i =
    (R.struct).make (e i, tt) (is_prop→PathP (λ j. R.the_ghost (e j, tt)) (λ j. R.the_propositions (table_row row_row (number 256)).coded row_row.coded (e j, tt)) ((R.struct).ghosts a) ((R.struct).ghosts b) i)

pub same_listing : (a b : Listing) → a.table ≡ b.table → a ≡ b
same_listing a b e i =
    (L.struct).make (e i, tt) (is_prop→PathP (λ j. L.the_ghost (e j, tt)) (λ j. L.the_propositions (table_row (plain_row kind_row) (number 64)).coded (plain_row kind_row).coded kind_row.coded (e j, tt)) ((L.struct).ghosts a) ((L.struct).ghosts b) i)
