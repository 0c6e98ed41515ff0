-- A row set in a table where its path stands. Assumes nothing.
use Rattle.std.proofs.Common.{◌≡◌, ℕ, zero, suc, ◌<◌, Bool, true, false, cond, ◌&&◌, ltb, leb, List, [], ◌∷◌, map, length, get_or, take, set, Some, None, Ok, Err, Result, Ordering, Less, Equal, Greater, sym, refl, ap, ◌∙◌, ap₂, arith}
use Rattle.std.specs.Ordering.{is_lt, is_le}
use lib.Seq.{take-set-lt}
use Rattle.std.proofs.lemmas.Bool.{leb-true, leb-false, ltb-true, ltb-false}
use Rattle.std.proofs.lemmas.List.{get_or-take, get_or_default}
use Rattle.std.specs.Option.{option_map}
use Rattle.std.specs.Result.{result_ok}
use Rattle.rules.specs.Names.{ModuleVersion}
use Rattle.rules.specs.Paths.{path_order}
use Rattle.rules.specs.Versions.{version_order}
use Rattle.rules.specs.Rows.{path_of, higher, row_of, with_row}
use Rattle.rules.specs.Tables.{lookup_by, lookup, entered_by, entered}
use Rattle.rules.proofs.Order.{paths}
use Rattle.rules.proofs.Tables.{map_lookup, map_entered, lookup_there}
use Rattle.ordered.specs.Ascents.{is_before, is_ascending}
use Rattle.ordered.specs.Held.{give, admitted}
use Rattle.ordered.specs.declared.table.NotInserted.{NotInserted}
use Rattle.ordered.specs.Places.{sought}
use Rattle.ordered.proofs.Found.{found_looked, found_put, missed_looked}
use Rattle.names.specs.Paths.{plain_path_bytes, plain_path_order}
use Rattle.names.specs.Canon.{same_plain_path}
use Rattle.modules.specs.Raised.{raise_told_by, raise_told}
use Rattle.modules.specs.Rows.{row_names, row_path}
use Rattle.modules.specs.declared.requirements.raises.NotRaised.{NotRaised}
use Rattle.modules.specs.declared.requirements.raises.NotRaised.TheVariants.{NotHigher, NoRoom}
use Rattle.modules.specs.declared.rows.Row.{Row}

-- an insertion's answer, whatever the reason of its refusal
abbrev pub without_reason : Result (Unit {0}) NotInserted → Result (Unit {0}) NotRaised
without_reason (Ok u) = Ok tt
without_reason (Err r) = Err NoRoom

-- whether a list ascends by a key is told by the keys alone
module _ {A K : Type 0} (key : A → K) (order : K → K → Ordering) where
  before_told : (x : A) (xs : List A) → is_before key order x xs ≡ is_before (λ k. k) order (key x) (map key xs)
  before_told x [] = refl
  before_told x (y ∷ ys) = ap (λ b. is_lt (order (key x) (key y)) && b) (before_told x ys)

  ascending_told : (xs : List A) → is_ascending key order xs ≡ is_ascending (λ k. k) order (map key xs)
  ascending_told [] = refl
  ascending_told (x ∷ xs) = ap₂ ◌&&◌ (before_told x xs) (ascending_told xs)

  pub ascending_keys : (xs ys : List A) → map key ys ≡ map key xs → is_ascending key order xs ≡ true → is_ascending key order ys ≡ true
  ascending_keys xs ys e up = ascending_told ys ∙ ap (is_ascending (λ k. k) order) e ∙ sym (ascending_told xs) ∙ up

  -- an item written over one of its key
  pub keys_set : (xs : List A) (i : ℕ) (x : A) → i < length xs → key (get_or xs i x) ≡ key x → map key (set xs i x) ≡ map key xs
  keys_set [] i x h e = refl
  keys_set (y ∷ ys) zero x h e = ap (λ k. k ∷ map key ys) (sym e)
  keys_set (y ∷ ys) (suc i) x h e = ap (λ ks. key y ∷ ks) (keys_set ys i x (omega arith) e)

-- where y is at the key, only what the new item and y make of each other matters
pub entered_met : {A K : Type 0} (key : A → K) (order : K → K → Ordering) (f g : A → A → A) (x y : A) (t : List A)
    → lookup key order (key x) t ≡ Some y → f x y ≡ g x y → entered key order f x t ≡ entered key order g x t
entered_met key order f g x y [] e h = let z : ◌≡◌ {A = ℕ} 0 1 = cc in absurd (omega arith)
entered_met {A} key order f g x y (w ∷ ws) e h = go (order (key x) (key w)) (λ q. entered_met key order f g x y ws q h) e
  where
    go : (o : Ordering) → (lookup key order (key x) ws ≡ Some y → entered key order f x ws ≡ entered key order g x ws)
        → lookup_by key order o w (lookup key order (key x) ws) ≡ Some y
        → entered_by key order o f x w ws (entered key order f x ws) ≡ entered_by key order o g x w ws (entered key order g x ws)
    go Less below q = refl
    go Equal below q = let same : w ≡ y = cc in ap (λ v. v ∷ ws) (ap (f x) same ∙ h ∙ ap (g x) (sym same))
    go Greater below q = ap (λ zs. w ∷ zs) (below q)

-- A row of an array, lifted to the version of another of its path, is that other; of the array the first n are told.
pub lifted : (r t : List Row) (n i : ℕ) (d row new : Row) → take n r ≡ t → i < n → i < length t → (get_or t i row).path ≡ row.path
    → new ≡ record { path = (get_or r i d).path; version = row.version } → take n (set r i new) ≡ set t i row
lifted r t n i d row new e l h p q =
    take-set-lt n r i new l ∙ ap₂ (λ xs y. set xs i y) e (q ∙ λ j. record { path = path j; version = row.version })
  where
    path : (get_or r i d).path ≡ row.path
    path = ap (λ (x : Row). x.path) (sym (get_or-take n r i d l) ∙ ap (λ xs. get_or xs i d) e ∙ get_or_default t i d row h) ∙ p

not_lower : (o : Ordering) → is_le o ≡ false → is_lt o ≡ false
not_lower Less e = let z : ◌≡◌ {A = ℕ} 0 1 = cc in absurd (omega arith)
not_lower Equal e = refl
not_lower Greater e = refl

module _ (t : List Row) (row : Row) (i : ℕ) (e : Ok i ≡ sought row_path plain_path_order row.path t) (h : i < length t) where
  -- the row of its path is the one at that place
  pub row_there : (d : Row) → row_of (row_names row).path (map row_names t) ≡ Some (row_names (get_or t i d))
  row_there d =
      sym (map_lookup row_path plain_path_order path_of path_order row_names row.path (plain_path_bytes row.path) (λ y. refl) t)
      ∙ ap (option_map row_names) (sym (found_looked row_path plain_path_order row.path t i (ap result_ok e) d))

  pub path_there : (d : Row) → (get_or t i d).path ≡ row.path
  path_there d =
      same_plain_path (get_or t i d).path row.path
      (lookup_there path_of path_order paths (row_names row).path (map row_names t) (row_names (get_or t i d)) (row_there d)).1

  -- written there it is entered, if it is higher
  pub row_set : is_le (version_order (row_names row).version (row_names (get_or t i row)).version) ≡ false → map row_names (set t i row) ≡ with_row (row_names row) (map row_names t)
  row_set up =
      ap (map row_names) (found_put row_path plain_path_order row t i (ap result_ok e))
      ∙ map_entered row_path plain_path_order path_of path_order row_names (λ a b. refl) give give (λ a b. refl) row t
      ∙ entered_met path_of path_order give higher (row_names row) (row_names (get_or t i row)) (map row_names t) (row_there row)
      (sym (ap (λ b. cond b (row_names (get_or t i row)) (row_names row)) (not_lower (version_order (row_names row).version (row_names (get_or t i row)).version) up)))

  -- it is refused if it is not higher
  pub told_upto : (d : Row) → true ≡ is_le (version_order (row_names row).version (row_names (get_or t i d)).version) → Err NotHigher ≡ raise_told (map row_names t) (row_names row)
  told_upto d up = sym (ap (λ o. raise_told_by o (map row_names t) (row_names row)) (row_there d) ∙ ap (λ b. cond b (Err NotHigher) (Ok tt)) (sym up))

  pub told_higher : (d : Row) → false ≡ is_le (version_order (row_names row).version (row_names (get_or t i d)).version) → Ok tt ≡ raise_told (map row_names t) (row_names row)
  told_higher d up = sym (ap (λ o. raise_told_by o (map row_names t) (row_names row)) (row_there d) ∙ ap (λ b. cond b (Err NotHigher) (Ok tt)) (sym up))

  pub set_higher : (d : Row) → false ≡ is_le (version_order (row_names row).version (row_names (get_or t i d)).version) → map row_names (set t i row) ≡ with_row (row_names row) (map row_names t)
  set_higher d up = row_set (ap (λ (y : Row). is_le (version_order (row_names row).version (row_names y).version)) (get_or_default t i row d h) ∙ sym up)

-- a row of a new path is added, or there is no room
module _ (t : List Row) (row : Row) (i : ℕ) (e : Err i ≡ sought row_path plain_path_order row.path t) where
  no_row : row_of (row_names row).path (map row_names t) ≡ None
  no_row =
      sym (map_lookup row_path plain_path_order path_of path_order row_names row.path (plain_path_bytes row.path) (λ y. refl) t)
      ∙ ap (option_map row_names) (sym (missed_looked row_path plain_path_order row.path t (ap result_ok e)))

  -- by what an insertion answers
  pub told_new : (r : Result (Unit {0}) NotInserted) → r ≡ admitted (row_of (row_names row).path (map row_names t)) (ltb (length (map row_names t)) 256)
      → without_reason r ≡ raise_told (map row_names t) (row_names row)
  told_new r q = ap without_reason (q ∙ ap (λ o. admitted o (ltb n 256)) no_row) ∙ by_room n ∙ sym (ap (λ o. raise_told_by o (map row_names t) (row_names row)) no_row)
    where
      n : ℕ
      n = length (map row_names t)

      -- there is room, or 256 rows are there
      by_room : (n : ℕ) → without_reason (admitted {A = ModuleVersion} None (ltb n 256)) ≡ cond (leb 256 n) (Err NoRoom) (Ok tt)
      by_room n = go (ltb n 256) refl (leb 256 n) refl
        where
          go : (b : Bool) → ltb n 256 ≡ b → (d : Bool) → leb 256 n ≡ d → without_reason (admitted {A = ModuleVersion} None b) ≡ cond d (Err NoRoom) (Ok tt)
          go true p true q = absurd (omega (arith, ltb-true n 256 p, leb-true 256 n q))
          go true p false q = refl
          go false p true q = refl
          go false p false q = absurd (omega (arith, ltb-false n 256 p, leb-false 256 n q))
