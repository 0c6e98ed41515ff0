-- What a layer has inside, which its meaning alone does not tell: its own table, and what the source below it means. Assumes nothing.
use Rattle.std.specs.Prelude.{List}
use Rattle.rules.specs.Names.{ModuleVersion}
use Rattle.rules.specs.Sources.{Meaning}

pub record Inside : Type 0 where
  pub exclusions : List ModuleVersion
  pub below : Meaning
