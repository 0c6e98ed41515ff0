-- Rows written on a sheet, one after another. Assumes nothing.
use Rattle.std.proofs.Common.{◌≡◌, ℕ, suc, ◌+◌, ◌<◌, ◌≤◌, Bool, true, false, cond, ltb, not, ◌||◌, List, [], ◌∷◌, ◌++◌, map, length, get_or, take, drop, is_some, Some, None, Ok, Err, Option, sym, refl, ap, ◌∙◌, subst, arith, take-append-drop}
use Rattle.std.specs.List.{position, position_or_len}
use Rattle.std.specs.Option.{option_map}
use Rattle.std.proofs.lemmas.List.{map_more, map-append, take_all, take-append-le, length-append}
use Rattle.std.proofs.lemmas.List.Elements.{filter-append}
use Rattle.std.proofs.lemmas.Bool.{lt-ltb, le-ltb, ltb-true, ltb-false}
use Rattle.rules.specs.Orders.{Bytes}
use Rattle.rules.specs.Names.{ModuleVersion, same, same_path, has}
use Rattle.rules.specs.Projects.{off_main}
use Rattle.rules.specs.Walks as R
use Rattle.rules.specs.Walks.{module_versions, noted, written, if_room, ended, done, no_room}
use Rattle.rules.proofs.Walks.{placed, written_keeps}
use Rattle.rules.proofs.Turns.{written_append, written_longer}
use Rattle.walks.specs.declared.place.Place.{Place}
use Rattle.walks.specs.Places.{place_of, place_in}
use Rattle.walks.specs.Sheets.{EndsAs}
use Rattle.causes.specs.declared.refusal.Refusal.{Refusal}
use Rattle.walks.proofs.Telling.{without_room, ok_ended, err_ended, ends_over, ends_by, ends_room}

one_later : (k n : ℕ) → ltb (suc k) (suc n) ≡ ltb k n
one_later k n = go (ltb k n) refl
  where
    go : (b : Bool) → ltb k n ≡ b → ltb (suc k) (suc n) ≡ b
    go true e = lt-ltb (suc k) (suc n) (omega (arith, ltb-true k n e))
    go false e = le-ltb (suc k) (suc n) (omega (arith, ltb-false k n e))

-- the first place that has the row
module _ (x : ModuleVersion) where
  abbrev pub is_there : Place → Bool
  is_there p = same x (place_of p).row

  abbrev first : List Place → ℕ
  first = position_or_len is_there

  pub place_is : (ps : List Place) → position is_there ps ≡ place_in (module_versions (map place_of ps)) x
  place_is [] = refl
  place_is (p ∷ ps) = go (is_there p) (place_is ps)
    where
      later : (k : ℕ) (b : Bool) → cond b (Some (suc k)) None ≡ option_map suc (cond b (Some k) None)
      later k true = refl
      later k false = refl

      go : (b : Bool) → position is_there ps ≡ place_in (module_versions (map place_of ps)) x
          → cond (ltb (cond (not b) (1 + first ps) 0) (suc (length ps))) (Some (cond (not b) (1 + first ps) 0)) None ≡ cond b (Some 0) (option_map suc (place_in (module_versions (map place_of ps)) x))
      go true e = ap (λ (t : Bool). cond t (Some 0) None) (lt-ltb 0 (suc (length ps)) (omega arith))
      go false e =
          let next : 1 + first ps ≡ suc (first ps) = omega arith in
          ap (λ (k : ℕ). cond (ltb k (suc (length ps))) (Some k) None) next
          ∙ ap (λ (t : Bool). cond t (Some (suc (first ps))) None) (one_later (first ps) (length ps))
          ∙ later (first ps) (ltb (first ps) (length ps))
          ∙ ap (option_map suc) e

-- a row is on a sheet if it has a place there
pub place_has : (ys : List ModuleVersion) (x : ModuleVersion) → is_some (place_in ys x) ≡ has ys x
place_has [] x = refl
place_has (y ∷ ys) x = go (same x y) (place_in ys x) (place_has ys x)
  where
    go : (b : Bool) (r : Option ℕ) → is_some r ≡ has ys x → is_some (cond b (Some 0) (option_map suc r)) ≡ (b || has ys x)
    go true r e = refl
    go false None e = e
    go false (Some j) e = e

-- one row, unless it is on the main path or there
module _ (main : Bytes) (from : ℕ) (x : ModuleVersion) (sheet : List R.Place) where
  abbrev pub one : List R.Place
  one = written from (off_main main (x ∷ [])) sheet

  pub one_main : same_path x main ≡ true → one ≡ sheet
  one_main e = ap (λ b. written from (cond (not b) (x ∷ []) []) sheet) e

  pub one_off : same_path x main ≡ false → one ≡ noted from x sheet
  one_off e = ap (λ b. written from (cond (not b) (x ∷ []) []) sheet) e

  pub one_there : same_path x main ≡ false → has (module_versions sheet) x ≡ true → one ≡ sheet
  one_there e h = one_off e ∙ ap (λ b. cond b sheet (sheet ++ placed x from ∷ [])) h

  pub one_new : same_path x main ≡ false → has (module_versions sheet) x ≡ false → one ≡ sheet ++ placed x from ∷ []
  one_new e h = one_off e ∙ ap (λ b. cond b sheet (sheet ++ placed x from ∷ [])) h

-- what is in front of a full sheet stays
pub written_full : (from : ℕ) (xs : List ModuleVersion) (sheet : List R.Place) → 256 ≤ length sheet → take 256 (written from xs sheet) ≡ take 256 sheet
written_full from xs sheet h =
    (written_keeps (λ s. (256 ≤ length s) × (take 256 s ≡ take 256 sheet)) from xs
    (λ s x k new i. (omega (arith, length-append s (placed x from ∷ []), i.0), take-append-le 256 s (placed x from ∷ []) i.0 ∙ i.1))
    sheet (h, refl)).1

-- the rows of a list, told by f, as far as they are gone through
module _ {A : Type 0} (f : A → ModuleVersion) (main : Bytes) (from : ℕ) (rows : List A) (sheet : List R.Place) where
  abbrev pub upto : ℕ → List R.Place
  upto i = written from (off_main main (map f (take i rows))) sheet

  abbrev whole : List R.Place
  whole = written from (off_main main (map f rows)) sheet

  parted : (xs ys : List ModuleVersion) → written from (off_main main (xs ++ ys)) sheet ≡ written from (off_main main ys) (written from (off_main main xs) sheet)
  parted xs ys =
      ap (λ zs. written from zs sheet) (filter-append (λ y. not (same_path y main)) xs ys)
      ∙ written_append from (off_main main xs) (off_main main ys) sheet

  upto_more : (i : ℕ) (d : A) → i < length rows → upto (i + 1) ≡ one main from (f (get_or rows i d)) (upto i)
  upto_more i d h = ap (λ ys. written from (off_main main ys) sheet) (map_more f rows i d h) ∙ parted (map f (take i rows)) (f (get_or rows i d) ∷ [])

  upto_rest : (i : ℕ) → whole ≡ written from (off_main main (map f (drop i rows))) (upto i)
  upto_rest i =
      ap (λ ys. written from (off_main main (map f ys)) sheet) (sym (take-append-drop i rows))
      ∙ ap (λ ys. written from (off_main main ys) sheet) (map-append f (take i rows) (drop i rows))
      ∙ parted (map f (take i rows)) (map f (drop i rows))

  upto_all : (i : ℕ) → length rows ≤ i → upto i ≡ whole
  upto_all i h = ap (λ ys. written from (off_main main (map f ys)) sheet) (take_all i rows h)

  -- a turn: the places so far are `front`, and x is the next row
  module _ (i : ℕ) (x d : A) (h : i < length rows) (read : x ≡ get_or rows i d) (front : List R.Place) (so_far : front ≡ upto i) where
    next : one main from (f x) front ≡ upto (i + 1)
    next = ap (λ s. one main from (f x) s) so_far ∙ ap (λ y. one main from (f y) (upto i)) read ∙ sym (upto_more i d h)

    pub turn_more : (left : List R.Place) → EndsAs {A = Unit {0}} (if_room (ended done) (one main from (f x) front)) (Ok tt) left → left ≡ upto (i + 1)
    turn_more left t = (ok_ended (one main from (f x) front) left tt t).1 ∙ next

    pub turn_full : (left : List R.Place) (s : Refusal) → EndsAs {A = Unit {0}} (if_room (ended done) (one main from (f x) front)) (Err s) left → EndsAs {A = Unit {0}} (if_room (ended done) whole) (Err s) left
    turn_full left s t =
        let (l, k) = err_ended (one main from (f x) front) left s t in
        let long : 256 < length (upto (i + 1)) = subst (λ u. 256 < length u) next l in
        let rest = map f (drop (i + 1) rows) in
        let more : 256 < length whole = omega (arith, long, ap length (upto_rest (i + 1)), written_longer from (off_main main rest) (upto (i + 1))) in
        ends_by (if_room (ended done) whole) (ended no_room whole) (Err s) left (without_room (ended done) whole more)
        (ends_over (one main from (f x) front) whole (Err s) left
        (ap (take 256) (upto_rest (i + 1)) ∙ written_full from (off_main main rest) (upto (i + 1)) (omega arith) ∙ ap (take 256) (sym next)) k)

  pub turn_whole : (i : ℕ) → length rows ≤ i → (left : List R.Place) → length left ≤ 256 → left ≡ upto i → EndsAs {A = Unit {0}} (if_room (ended done) whole) (Ok tt) left
  turn_whole i h left short e = ends_room whole left tt (subst (λ u. length u ≤ 256) (e ∙ upto_all i h) short) (e ∙ upto_all i h)
