-- What a fallback layer means, by the meanings of the two sources below it, and what is inside of it. Assumes nothing.
use Rattle.std.specs.Prelude.{List, ◌++◌}
use Rattle.rules.specs.Sources.{Meaning, falling_back}
use Rattle.source.specs.Insides.{Inside}
use Rattle.layers.specs.declared.fallback.Fallback.{Fallback}

abbrev pub fallback_meaning : {F S : Type 0} → (F → Meaning) → (S → Meaning) → Fallback F S → Meaning
fallback_meaning first second e = falling_back (first e.first) (second e.second)

-- what is inside of the first, and then of the second
abbrev pub fallback_inside : {F S : Type 0} → (F → List Inside) → (S → List Inside) → Fallback F S → List Inside
fallback_inside first second e = first e.first ++ second e.second
