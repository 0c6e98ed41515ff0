-- Texts that may follow numbers of a version. Assumes nothing.
use Rattle.std.specs.Prelude.{◌≡◌, ℕ, suc, Bool, false, ◌&&◌, List, length, Some, None, Option, ◌==◌}
use Rattle.std.specs.Borrow.{Bor}
use Rattle.rules.specs.Orders.{Bytes}
use Rattle.rules.specs.Texts.{dot, every, pieces}
use Rattle.rules.specs.Versions.{is_number, is_identifier, before_dash, behind_dash}

-- so many numbers joined by dots, then perhaps a dash and identifiers joined by dots
abbrev pub releases : ℕ → Bytes → Bool
releases n bs = (length (pieces dot (before_dash bs)) == n && every is_number (pieces dot (before_dash bs))) && every is_identifier (behind_dash bs)

-- what stands behind the first of several numbers
abbrev pub Behind : Bytes → Option (Bor (List ℕ)) → Type 0
Behind text None = (n : ℕ) → releases (suc (suc n)) text ≡ false
Behind text (Some rest) = (n : ℕ) → releases (suc n) text ≡ releases n rest.now
