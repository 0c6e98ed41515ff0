-- The from numbers followed one step. Assumes nothing.
use Rattle.std.proofs.Common.{◌≡◌, ℕ, zero, suc, ◌+◌, ◌-◌, ◌<◌, ◌≤◌, List, [], ◌∷◌, ◌++◌, map, length, get_or, Some, sym, refl, ap, ◌∙◌, append_assoc, append-nil, arith}
use lib.ListN.{length-map, get_or-map}
use Rattle.std.specs.List.{slice_get}
use Rattle.std.proofs.lemmas.Option.{slice_get_read, slice_get_past}
use Rattle.std.proofs.lemmas.List.{map_push}
use Rattle.rules.specs.Names.{ModuleVersion}
use Rattle.rules.specs.Walks as R
use Rattle.modules.specs.Rows.{row_names}
use Rattle.modules.specs.declared.rows.Row.{Row}
use Rattle.walks.specs.Places.{place_of}
use Rattle.walks.specs.declared.place.Place.{Place}

module _ (sheet : List Place) where
  module _ (rows : List Row) (i at place : ℕ) (so_far : map row_names rows ++ R.trail (length sheet - i) (map place_of sheet) at ≡ R.trail (length sheet) (map place_of sheet) place) where
    -- a turn is left
    left : i < length sheet → length sheet - i ≡ suc (length sheet - (i + 1))
    left h = omega arith

    -- there is no such place
    pub ends_past : i < length sheet → length sheet ≤ at → map row_names rows ≡ R.trail (length sheet) (map place_of sheet) place
    unfolding R.trail
    ends_past h far =
        sym (append-nil (map row_names rows))
        ∙ ap (λ xs. map row_names rows ++ xs) (sym (ap (λ k. R.trail k (map place_of sheet) at) (left h) ∙ ap (R.trail_at (R.trail (length sheet - (i + 1)) (map place_of sheet)) at) (slice_get_past (map place_of sheet) at (simp length-map far))))
        ∙ so_far

    module _ (p : Place) (in_sheet : at < length sheet) (read : p ≡ get_or sheet at p) where
      there : slice_get (map place_of sheet) at ≡ Some (place_of p)
      there = slice_get_read (map place_of sheet) (length sheet) at (place_of p) (sym (length-map sheet place_of)) in_sheet (ap place_of read ∙ sym (get_or-map place_of sheet at p))

      step : i < length sheet → R.trail (length sheet - i) (map place_of sheet) at ≡ row_names p.row ∷ R.trail_on at (R.trail (length sheet - (i + 1)) (map place_of sheet) p.from)
      unfolding R.trail
      step h = ap (λ k. R.trail k (map place_of sheet) at) (left h) ∙ ap (R.trail_at (R.trail (length sheet - (i + 1)) (map place_of sheet)) at) there

      -- place 0 is the last
      pub ends_at_main : i < length sheet → at ≡ 0 → (more : List Row) → more ≡ rows ++ p.row ∷ [] → map row_names more ≡ R.trail (length sheet) (map place_of sheet) place
      ends_at_main h z more e =
          ap (map row_names) e ∙ map_push row_names rows p.row
          ∙ ap (λ xs. map row_names rows ++ xs) (sym (step h ∙ ap (λ k. row_names p.row ∷ R.trail_on k (R.trail (length sheet - (i + 1)) (map place_of sheet) p.from)) z)) ∙ so_far

      -- any other leads on
      pub goes_on : i < length sheet → (at ≡ 0 → ⊥) → (more : List Row) → more ≡ rows ++ p.row ∷ [] → map row_names more ++ R.trail (length sheet - (i + 1)) (map place_of sheet) p.from ≡ R.trail (length sheet) (map place_of sheet) place
      goes_on h nz more e =
          ap (λ xs. xs ++ rest) (ap (map row_names) e ∙ map_push row_names rows p.row)
          ∙ append_assoc (map row_names rows) (row_names p.row ∷ []) rest
          ∙ ap (λ xs. map row_names rows ++ xs) (sym (step h ∙ ap (λ xs. row_names p.row ∷ xs) (on at nz))) ∙ so_far
        where
          rest : List ModuleVersion
          rest = R.trail (length sheet - (i + 1)) (map place_of sheet) p.from

          on : (k : ℕ) → (k ≡ 0 → ⊥) → R.trail_on k rest ≡ rest
          on zero n = absurd (n refl)
          on (suc k) n = refl

    -- no turn is left
    pub ends_spent : length sheet ≤ i → map row_names rows ≡ R.trail (length sheet) (map place_of sheet) place
    unfolding R.trail
    ends_spent h = sym (append-nil (map row_names rows)) ∙ ap (λ xs. map row_names rows ++ xs) (sym (ap (λ k. R.trail k (map place_of sheet) at) none)) ∙ so_far
      where
        none : length sheet - i ≡ 0
        none = omega arith
