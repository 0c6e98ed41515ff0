-- What a second check leaves where it fails, whatever the first said. Assumes nothing.
use Rattle.std.proofs.Common.{◌≡◌, ℕ, Bool, true, false, ◌&&◌, None, refl, arith}
use Rattle.std.specs.Bool.{then_some}

pub second_refused : {A B : Type 0} (first second : Bool) (x : A) (y : B) → None ≡ then_some second y → None ≡ then_some (first && second) x
second_refused true true x y e = let z : ◌≡◌ {A = ℕ} 0 1 = cc in absurd (omega arith)
second_refused true false x y e = refl
second_refused false second x y e = refl
