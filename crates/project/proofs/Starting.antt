-- The rows that are not excluded, gone through one after another. Assumes nothing.
use Rattle.std.proofs.Common.{◌≡◌, ℕ, ◌+◌, ◌<◌, ◌≤◌, true, false, cond, not, List, [], ◌∷◌, ◌++◌, map, length, get_or, take, set, sym, ap, ◌∙◌, ap₂, append-nil, arith, length-set}
use lib.ListN.{length-map}
use lib.Seq.{take-set-le}
use Rattle.std.proofs.lemmas.List.Elements.{filter_more}
use Rattle.std.proofs.lemmas.List.{take_more, get_or-set_same, map-append}
use Rattle.rules.specs.Names.{ModuleVersion, has}
use Rattle.rules.specs.Sources.{included}
use Rattle.ordered.specs.Held.{held}
use Rattle.modules.specs.Rows.{row_names, names_of}
use Rattle.modules.specs.Tables.{requirement_names}
use Rattle.modules.specs.declared.rows.Row.{Row}
use Rattle.modules.specs.declared.rows.ModuleVersion as V
use Rattle.modules.specs.declared.requirements.Requirements.{Requirements}

-- the row at i is left out
pub left_out : (es u : List ModuleVersion) (i : ℕ) (x : ModuleVersion) → i < length u → x ≡ get_or u i x → has es x ≡ true → included es (take (i + 1) u) ≡ included es (take i u)
left_out es u i x h r t =
    filter_more (λ y. not (has es y)) u i x h
    ∙ ap (λ y. included es (take i u) ++ cond (not (has es y)) (y ∷ []) []) (sym r)
    ∙ ap (λ b. included es (take i u) ++ cond (not b) (x ∷ []) []) t
    ∙ append-nil (included es (take i u))

-- the row at i is taken
pub taken : (es u : List ModuleVersion) (i : ℕ) (x : ModuleVersion) → i < length u → x ≡ get_or u i x → has es x ≡ false → included es (take (i + 1) u) ≡ included es (take i u) ++ x ∷ []
taken es u i x h r t =
    filter_more (λ y. not (has es y)) u i x h
    ∙ ap (λ y. included es (take i u) ++ cond (not (has es y)) (y ∷ []) []) (sym r)
    ∙ ap (λ b. included es (take i u) ++ cond (not b) (x ∷ []) []) t

-- a table has at most 256 rows
pub few : (t : Requirements) → length (requirement_names t) ≤ 256
few t = omega (arith, t.fits, length-map (held t.table) row_names)

pub few_items : (t : Requirements) (items : List Row) → map row_names items ≡ requirement_names t → length items ≤ 256
few_items t items e = omega (arith, few t, ap length e, length-map items row_names)

-- one module version more in front
pub one_more : (rows : List V.ModuleVersion) (n : ℕ) (of : V.ModuleVersion) (xs : List ModuleVersion) (x : ModuleVersion) → n < length rows → map names_of (take n rows) ≡ xs → names_of of ≡ x
    → map names_of (take (n + 1) (set rows n of)) ≡ xs ++ x ∷ []
one_more rows n of xs x h e q =
    ap (map names_of) (take_more (set rows n of) n of (simp length-set h) ∙ ap₂ (λ ys y. ys ++ y ∷ []) (take-set-le n rows n of (omega arith)) (get_or-set_same rows n of of h))
    ∙ map-append names_of (take n rows) (of ∷ []) ∙ ap₂ (λ ys y. ys ++ y ∷ []) e q

-- a turn of the loop: of the rows u those to i are gone through, and n of them taken
module _ (es u : List ModuleVersion) (rows : List V.ModuleVersion) (n i : ℕ) (x : ModuleVersion) (low : n ≤ i) (long : length rows ≡ 256) (so_far : map names_of (take n rows) ≡ included es (take i u))
    (in_list : i < length u) (read : x ≡ get_or u i x) where
  pub turn_taken : (of : V.ModuleVersion) (after : List V.ModuleVersion) (k : ℕ) → n < 256 → names_of of ≡ x → has es x ≡ false → after ≡ set rows n of → k ≡ n + 1
      → (k ≤ i + 1) × (length after ≡ 256) × (map names_of (take k after) ≡ included es (take (i + 1) u))
  turn_taken of after k room e t p q =
      let grown : length (set rows n of) ≡ 256 = simp length-set long in
      (omega arith, ap length p ∙ grown, ap₂ (λ j (ys : List V.ModuleVersion). map names_of (take j ys)) q p ∙ one_more rows n of (included es (take i u)) x (omega arith) so_far e ∙ sym (taken es u i x in_list read t))

  pub turn_left : (after : List V.ModuleVersion) (k : ℕ) → has es x ≡ true → after ≡ rows → k ≡ n → (k ≤ i + 1) × (length after ≡ 256) × (map names_of (take k after) ≡ included es (take (i + 1) u))
  turn_left after k t p q = (omega arith, ap length p ∙ long, ap₂ (λ j (ys : List V.ModuleVersion). map names_of (take j ys)) q p ∙ so_far ∙ sym (left_out es u i x in_list read t))
