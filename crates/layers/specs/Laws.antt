-- The layers are lawful over lawful sources: the theorems of the rules, at the types that the impls name. Assumes nothing.
use Rattle.std.specs.Prelude.{List}
use Rattle.rules.specs.Names.{ModuleVersion}
use Rattle.rules.specs.Sources.{Meaning, Lawful, excluding, falling_back}
use Rattle.rules.proofs.Layers.{layer_right, fallback_right}

pub excluding_lawful : (es : List ModuleVersion) (m : Meaning) → Lawful m → Lawful (excluding es m)
excluding_lawful es m law = (layer_right m es).0 law

pub falling_back_lawful : (a b : Meaning) → Lawful a → Lawful b → Lawful (falling_back a b)
falling_back_lawful a b la lb = (fallback_right a b la lb).0
