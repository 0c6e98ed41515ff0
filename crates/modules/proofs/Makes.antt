-- One row after another raised: the table that rows make. Assumes nothing.
use Rattle.std.proofs.Common.{◌≡◌, ℕ, ◌+◌, ◌<◌, Bool, true, false, cond, leb, List, [], ◌∷◌, ◌++◌, length, get_or, take, drop, Some, None, Ok, Err, Option, Result, is_ok, ◌≢◌, Ordering, Less, Equal, Greater, sym, refl, ap, ◌∙◌, arith, take-append-drop}
use Rattle.std.specs.Bool.{then_some}
use Rattle.std.specs.Result.{result_eq}
use Rattle.std.specs.Ordering.{is_lt, is_le}
use Rattle.std.proofs.lemmas.List.{take_more}
use Rattle.std.proofs.lemmas.Bool.{leb-true, lt-leb}
use Rattle.rules.specs.Names.{ModuleVersion}
use Rattle.rules.specs.Paths.{path_order}
use Rattle.rules.specs.Versions.{version_order}
use Rattle.rules.specs.Rows.{path_of, higher, row_of, with_row, table}
use Rattle.rules.specs.Tables.{keep, entered_all}
use Rattle.rules.proofs.Order.{paths, versions}
use Rattle.rules.proofs.Tables.{entered_all_push, entered_all_append, entered_all_least, lookup_there}
use Rattle.ordered.specs.Held.{fitting}
use Rattle.ordered.proofs.Joining.{entered_present, entered_absent}
use Rattle.modules.specs.Raised.{raise_told_by, raise_told}
use Rattle.modules.specs.declared.requirements.raises.NotRaised.{NotRaised}
use Rattle.modules.specs.declared.requirements.raises.NotRaised.TheVariants.{NotHigher, NoRoom}
use Rattle.modules.proofs.Lifted.{entered_fresh}
use Rattle.modules.proofs.Raises.{entered_met}

-- of two rows of one path, of which the first is not higher, the second counts
not_higher : (x y : ModuleVersion) → x.path ≡ y.path → is_le (version_order x.version y.version) ≡ true → higher x y ≡ y
not_higher x y p = go (version_order x.version y.version) refl
  where
    go : (o : Ordering) → version_order x.version y.version ≡ o → is_le o ≡ true → cond (is_lt o) y x ≡ y
    go Less e t = refl
    go Equal e t = λ i. record { path = p i; version = versions.apart x.version y.version e i }
    go Greater e t = let z : ◌≡◌ {A = ℕ} 0 1 = cc in absurd (omega arith)

-- a row that is not raised changes no table
stays : (x : ModuleVersion) (t : List ModuleVersion) → Err NotHigher ≡ raise_told t x → t ≡ with_row x t
stays x t = go (row_of x.path t) refl
  where
    go : (o : Option ModuleVersion) → row_of x.path t ≡ o → Err NotHigher ≡ raise_told_by o t x → t ≡ with_row x t
    go None e q = by_room (leb 256 (length t)) q
      where
        by_room : (b : Bool) → Err NotHigher ≡ cond b (Err NoRoom) (Ok (tt {0})) → t ≡ with_row x t
        by_room true r = let z : ◌≡◌ {A = ℕ} 0 1 = cc in absurd (omega arith)
        by_room false r = let z : ◌≡◌ {A = ℕ} 0 1 = cc in absurd (omega arith)
    go (Some y) e q = by_version (is_le (version_order x.version y.version)) refl q
      where
        by_version : (b : Bool) → is_le (version_order x.version y.version) ≡ b → Err NotHigher ≡ cond b (Err NotHigher) (Ok (tt {0})) → t ≡ with_row x t
        by_version true u r =
            sym (entered_met path_of path_order higher keep x y t e (not_higher x y (sym (lookup_there path_of path_order paths x.path t y e).1) u) ∙ entered_present path_of path_order x y t e)
        by_version false u r = let z : ◌≡◌ {A = ℕ} 0 1 = cc in absurd (omega arith)

-- where there is no room for a row, the table with it would be too long
no_room_longer : (x : ModuleVersion) (t : List ModuleVersion) → Err NoRoom ≡ raise_told t x → 256 < length (with_row x t)
no_room_longer x t = go (row_of x.path t) refl
  where
    go : (o : Option ModuleVersion) → row_of x.path t ≡ o → Err NoRoom ≡ raise_told_by o t x → 256 < length (with_row x t)
    go None e q = by_room (leb 256 (length t)) refl q
      where
        by_room : (b : Bool) → leb 256 (length t) ≡ b → Err NoRoom ≡ cond b (Err NoRoom) (Ok (tt {0})) → 256 < length (with_row x t)
        by_room true l r = omega (arith, leb-true 256 (length t) l, entered_absent path_of path_order x t e, ap length (entered_fresh path_of path_order keep higher x t e))
        by_room false l r = let z : ◌≡◌ {A = ℕ} 0 1 = cc in absurd (omega arith)
    go (Some y) e q = by_version (is_le (version_order x.version y.version)) q
      where
        by_version : (b : Bool) → Err NoRoom ≡ cond b (Err NotHigher) (Ok (tt {0})) → 256 < length (with_row x t)
        by_version true r = let z : ◌≡◌ {A = ℕ} 0 1 = cc in absurd (omega arith)
        by_version false r = let z : ◌≡◌ {A = ℕ} 0 1 = cc in absurd (omega arith)

pub is_no_room : (same_unit : Unit {0} → Unit {0} → Bool) (same : NotRaised → NotRaised → Bool) (r : Result (Unit {0}) NotRaised) → true ≡ result_eq same_unit same r (Err NoRoom) → same NotHigher NoRoom ≡ false
    → r ≡ Err NoRoom
is_no_room same_unit same (Ok u) e apart = cc
is_no_room same_unit same (Err NotHigher) e apart = let z : true ≡ false = e ∙ apart in cc
is_no_room same_unit same (Err NoRoom) e apart = refl

-- the rows u are gone through to i, h is their table so far, and x is the row at i
module _ (u h : List ModuleVersion) (i : ℕ) (x : ModuleVersion) (so_far : h ≡ table (take i u)) (in_list : i < length u) (read : x ≡ get_or u i x) where
  more : with_row x h ≡ table (take (i + 1) u)
  more =
      ap (with_row x) so_far ∙ sym (entered_all_push path_of path_order higher [] (take i u) x)
      ∙ ap table (ap (λ y. take i u ++ y ∷ []) read ∙ sym (take_more u i x in_list))

  -- by what was answered, if it was not that there is no room
  pub raised_on : (r : Result (Unit {0}) NotRaised) (zs : List ModuleVersion) → r ≡ raise_told h x → (is_ok r ≡ true → zs ≡ with_row x h) → (is_ok r ≡ false → zs ≡ h) → r ≢ Err NoRoom
      → zs ≡ table (take (i + 1) u)
  raised_on (Ok u) zs e after refused ne = after refl ∙ more
  raised_on (Err NotHigher) zs e after refused ne = refused refl ∙ stays x h e ∙ more
  raised_on (Err NoRoom) zs e after refused ne = absurd (ne refl)

  pub raised_over : Err NoRoom ≡ raise_told h x → None ≡ fitting 256 (table u)
  raised_over q =
      ap (λ b. then_some b (table u)) (sym (lt-leb (length (table u)) 256 (omega (arith, no_room_longer x h q, ap length whole, entered_all_least path_of path_order higher (with_row x h) (drop (i + 1) u)))))
    where
      whole : table u ≡ entered_all path_of path_order higher (with_row x h) (drop (i + 1) u)
      whole =
          ap table (sym (take-append-drop (i + 1) u)) ∙ entered_all_append path_of path_order higher [] (take (i + 1) u) (drop (i + 1) u)
          ∙ ap (λ v. entered_all path_of path_order higher v (drop (i + 1) u)) (sym more)
