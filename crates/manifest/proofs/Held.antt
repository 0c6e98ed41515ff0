-- A row more in a lent slice. Assumes nothing.
use Rattle.std.proofs.Common.{◌≡◌, ℕ, zero, suc, ◌+◌, ◌-◌, ◌<◌, ◌≤◌, List, ◌∷◌, ◌++◌, length, take, drop, set, replicate, Ok, Err, sym, refl, ap, ◌∙◌, arith}
use Rattle.std.proofs.lemmas.List.{length-map, length-set, length-take-le, map-set, take_more_set, drop-set-lt, drop-drop, drop-replicate, take-append-drop}
use Rattle.std.proofs.lemmas.Bool.{cond-true, cond-false, lt-ltb, le-ltb}
use Rattle.rules.specs.Causes as R
use Rattle.rules.specs.Slices.{blank, filled}
use Rattle.modules.specs.declared.rows.Row.{Row}
use Rattle.modules.specs.Rows.{row_names}
use Rattle.manifest.specs.Holds.{names_in, names_read, Holds}
use Rattle.manifest.specs.Rows.{row_put}

pub names_replicate : (n : ℕ) (r : Row) → names_in (replicate n r) ≡ replicate n (row_names r)
names_replicate zero r = refl
names_replicate (suc n) r = ap (λ l. row_names r ∷ l) (names_replicate n r)

module _ (most n : ℕ) (rows : List Row) (h : Holds most n rows) where
  fits : n ≤ length rows
  fits = omega (arith, h.within, h.room)

  pub names_long : length (names_read n rows) ≡ n
  names_long = length-take-le n (names_in rows) (omega (arith, fits, length-map rows row_names))

  pub no_more : (row : Row) → n ≡ most → Err R.row_too_many ≡ row_put most (names_read n rows) row
  no_more row e = sym (cond-false _ _ _ (le-ltb (length (names_read n rows)) most (omega (arith, names_long, e))))

  module _ (row : Row) (less : n < most) where
    inside : n < length (names_in rows)
    inside = omega (arith, h.room, length-map rows row_names)

    pub one_more : Ok (names_read (n + 1) (set rows n row)) ≡ row_put most (names_read n rows) row
    one_more =
        ap Ok (ap (take (n + 1)) (map-set row_names rows n row) ∙ take_more_set (names_in rows) n (row_names row) inside)
        ∙ sym (cond-true _ _ _ (lt-ltb (length (names_read n rows)) most (omega (arith, names_long))))

    pub holds_more : Holds most (n + 1) (set rows n row)
    holds_more = record {
      within = omega arith;
      room = omega (arith, h.room, length-set rows n row);
      behind =
          ap (drop (n + 1)) (map-set row_names rows n row) ∙ drop-set-lt (n + 1) (names_in rows) n (row_names row) (omega arith)
          ∙ sym (drop-drop 1 n (names_in rows)) ∙ ap (drop 1) h.behind ∙ drop-replicate 1 (length rows - n) blank
          ∙ ap (λ k. replicate k blank) (let s = length-set rows n row in omega arith);
    }

  -- what a slice holds in the end
  pub filled_up : names_in rows ≡ filled blank (length rows) (names_read n rows)
  filled_up =
      sym (take-append-drop n (names_in rows)) ∙ ap (λ t. names_read n rows ++ t) h.behind
      ∙ ap (λ k. names_read n rows ++ replicate (length rows - k) blank) (sym names_long)

-- at the start
pub holds_none : (most : ℕ) (rows : List Row) → most ≤ length rows → names_in rows ≡ replicate (length rows) blank → Holds most 0 rows
holds_none most rows room e = record { within = omega arith; room = room; behind = e ∙ ap (λ k. replicate k blank) (let z : length rows ≡ length rows - 0 = omega arith in z) }
