-- The ceilings, as the rules see them. Assumes nothing.
use Rattle.std.specs.Prelude.{List, map}
use Rattle.rules.specs.Names.{ModuleVersion}
use Rattle.modules.specs.Rows.{row_names}
use Rattle.lowers.specs.declared.ceilings.Ceilings.{Ceilings}

abbrev pub ceiling_rows : Ceilings → List ModuleVersion
ceiling_rows c = map row_names c.rows.items
