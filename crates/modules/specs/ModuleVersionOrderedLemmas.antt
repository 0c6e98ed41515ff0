use Rattle.rules.specs.Orders.{Laws}
use Rattle.rules.specs.Names.{module_order}
use Rattle.rules.proofs.Order.{module_versions, laws_of}
use Rattle.names.specs.Pulled.{pulled}
use Rattle.modules.specs.Rows.{names_of, module_version_order}
use Rattle.modules.specs.Told.{same_module_version}

pub laws : Laws module_version_order
laws = pulled names_of module_order (laws_of module_versions) same_module_version
