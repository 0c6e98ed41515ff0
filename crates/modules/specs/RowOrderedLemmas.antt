use Rattle.rules.specs.Orders.{Laws}
use Rattle.rules.specs.Names.{module_order}
use Rattle.rules.proofs.Order.{module_versions, laws_of}
use Rattle.names.specs.Pulled.{pulled}
use Rattle.modules.specs.Rows.{row_names, row_order}
use Rattle.modules.specs.Told.{same_row}

pub laws : Laws row_order
laws = pulled row_names module_order (laws_of module_versions) same_row
