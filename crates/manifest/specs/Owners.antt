-- How many require rows a manifest may have. Assumes nothing.
use Rattle.std.specs.Prelude.{ℕ}
use Rattle.manifest.specs.declared.kinds.Owner.{Owner}
use Rattle.manifest.specs.declared.kinds.Owner.TheVariants.{Source, Project}

abbrev pub most_rows : Owner → ℕ
most_rows Source = 64
most_rows Project = 256
