-- What an exclude layer means, over what is below it, and what is answered to one exclusion more. Assumes nothing.
use Rattle.std.specs.Prelude.{cond, List, ◌∷◌, length, Ok, Err, Result, nat_le}
use Rattle.rules.specs.Names.{ModuleVersion, has}
use Rattle.rules.specs.Sources.{Meaning, excluding}
use Rattle.ordered.specs.declared.table.NotInserted.{NotInserted}
use Rattle.ordered.specs.declared.table.NotInserted.TheVariants.{Present, Full}
use Rattle.causes.specs.declared.cause.Cause.{Cause}
use Rattle.causes.specs.declared.cause.Cause.TheVariants.{TableFull, NothingToChange}
use Rattle.modules.specs.Tables.{exclusion_names}
use Rattle.source.specs.Insides.{Inside}
use Rattle.layers.specs.declared.exclude.Exclude.{Exclude}

-- the meaning of a layer, by the meaning of what is below it
abbrev pub exclude_meaning : {S : Type 0} → (S → Meaning) → Exclude S → Meaning
exclude_meaning below e = excluding (exclusion_names e.exclusions) (below e.below)

-- what a layer has inside: its table and what the source below it means, and then what is inside of that
abbrev pub exclude_inside : {S : Type 0} → (S → Meaning) → (S → List Inside) → Exclude S → List Inside
exclude_inside below inside e = record { exclusions = exclusion_names e.exclusions; below = below e.below } ∷ inside e.below

-- why a table takes no item more
abbrev pub refusal_cause : NotInserted → Cause
refusal_cause Present = NothingToChange
refusal_cause Full = TableFull

-- it is refused if it is there, and then if there are 32
abbrev pub exclusion_told : List ModuleVersion → ModuleVersion → Result (Unit {0}) Cause
exclusion_told es x = cond (has es x) (Err NothingToChange) (cond (nat_le 32 (length es)) (Err TableFull) (Ok tt))
