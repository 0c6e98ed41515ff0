-- The first item of a module version is the first pair that is asked for, where the items are the pairs. Assumes nothing.
use Rattle.std.proofs.Common.{◌≡◌, Bool, true, false, cond, List, [], ◌∷◌, Some, refl}
use Rattle.std.specs.Option.{option_map}
use Rattle.rules.specs.Names.{ModuleVersion}
use Rattle.fields.specs.Pairs.{Pair}
use Rattle.bottoms.specs.Items.{first_of}
use Rattle.bottoms.specs.Seeking.{Seen, first_from}

pub first_seen : (is_of : ModuleVersion → Pair → Bool) (x : ModuleVersion) (qs : List Pair) → option_map (λ (s : Seen). s.pair) (first_from (is_of x) qs) ≡ first_of is_of x qs
first_seen is_of x [] = refl
first_seen is_of x (q ∷ qs) = go (is_of x q) (first_seen is_of x qs)
  where
    go : (b : Bool) → option_map (λ (s : Seen). s.pair) (first_from (is_of x) qs) ≡ first_of is_of x qs
        → option_map (λ (s : Seen). s.pair) (cond b (Some (record { pair = q; after = qs })) (first_from (is_of x) qs)) ≡ cond b (Some q) (first_of is_of x qs)
    go true e = refl
    go false e = e
