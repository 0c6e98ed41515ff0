-- Listings joined, where that is at most 64 versions and where it is not. Assumes nothing.
use Rattle.std.proofs.Common.{◌≡◌, ℕ, ◌<◌, ◌≤◌, Bool, true, false, cond, leb, List, [], length, Some, None, sym, refl, ap, ◌∙◌, arith}
use Rattle.std.specs.Bool.{then_some}
use Rattle.std.proofs.lemmas.Bool.{le-leb, leb-true, leb-false, le-ltb, lt-ltb}
use Rattle.rules.specs.Orders.{Bytes}
use Rattle.rules.specs.Versions.{version_order}
use Rattle.rules.specs.Rows.{own, AscendingVersions, joined_versions}
use Rattle.rules.specs.Sources.{found, fault, Meaning, passed_up, both_listed, at_most_64, over_64, falling_back}
use Rattle.rules.proofs.Order.{versions, laws_of}
use Rattle.rules.proofs.Tables.{tables_right}
use Rattle.ordered.specs.Held.{fitting}

-- versions that ascend, joined to nothing, are those versions
pub joined_whole : (none vs : List Bytes) → none ≡ [] → AscendingVersions vs → length vs ≤ 64 → fitting 64 (joined_versions none vs) ≡ Some vs
joined_whole none vs e up few =
    ap (λ t. fitting 64 (joined_versions t vs)) e ∙ ap (fitting 64) ((tables_right Bytes Bytes own version_order (laws_of versions)).joined_nothing vs up)
    ∙ ap (λ b. then_some b vs) (le-leb (length vs) 64 few)

pub fitted : (ys xs : List Bytes) → Some ys ≡ fitting 64 xs → (ys ≡ xs) × (length xs ≤ 64)
fitted ys xs = go (leb (length xs) 64) refl
  where
    go : (b : Bool) → leb (length xs) 64 ≡ b → Some ys ≡ then_some b xs → (ys ≡ xs) × (length xs ≤ 64)
    go true t q = (cc, leb-true (length xs) 64 t)
    go false t q = let z : ◌≡◌ {A = ℕ} 0 1 = cc in absurd (omega arith)

pub unfitted : (xs : List Bytes) → None ≡ fitting 64 xs → 64 < length xs
unfitted xs = go (leb (length xs) 64) refl
  where
    go : (b : Bool) → leb (length xs) 64 ≡ b → None ≡ then_some b xs → 64 < length xs
    go true t q = let z : ◌≡◌ {A = ℕ} 0 1 = cc in absurd (omega arith)
    go false t q = leb-false (length xs) 64 t

pub few_listed : (xs : List Bytes) → length xs ≤ 64 → at_most_64 (found xs) ≡ found xs
few_listed xs h = ap (λ b. cond b (fault over_64) (found xs)) (le-ltb 64 (length xs) h)

pub many_listed : (xs : List Bytes) → 64 < length xs → at_most_64 (found xs) ≡ fault over_64
many_listed xs h = ap (λ b. cond b (fault over_64) (found xs)) (lt-ltb 64 (length xs) h)

pub both_found : (a b : Meaning) (p : Bytes) (us vs ws : List Bytes) → us ≡ vs → a.listing p ≡ found vs → b.listing p ≡ found ws → at_most_64 (found (joined_versions us ws)) ≡ (falling_back a b).listing p
both_found a b p us vs ws u e f =
    ap (λ xs. at_most_64 (found (joined_versions xs ws))) u
    ∙ ap (λ z. at_most_64 (passed_up (both_listed (found vs) z))) (sym f)
    ∙ ap (λ z. at_most_64 (passed_up (both_listed z (b.listing p)))) (sym e)
