-- Rows entered into a table. Assumes nothing.
use Rattle.std.proofs.Common.{◌≡◌, ℕ, ◌+◌, ◌<◌, ◌≤◌, Bool, true, false, cond, not, List, [], ◌∷◌, ◌++◌, map, length, get_or, take, drop, set, Ok, Err, Result, Ordering, Less, Equal, Greater, sym, refl, ap, ◌∙◌, arith, take-append-drop, MatchResult}
use Rattle.std.specs.Ordering.{is_lt, is_ge}
use Rattle.std.specs.List.{insert}
use Rattle.std.proofs.lemmas.List.{append-nil, get_or_default, set-get_or, map_more, map-append, take_all}
use Rattle.std.proofs.lemmas.List.Elements.{filter-append}
use Rattle.std.proofs.lemmas.Result.{MatchResult-at_ok, MatchResult-at_err}
use Rattle.rules.specs.Orders.{Bytes}
use Rattle.rules.specs.Paths.{path_order}
use Rattle.rules.specs.Versions.{version_order}
use Rattle.rules.specs.Names.{ModuleVersion, same_path}
use Rattle.rules.specs.Tables.{entered_by, entered}
use Rattle.rules.specs.Rows.{path_of, higher, with_row, table}
use Rattle.rules.specs.Projects.{off_main}
use Rattle.rules.specs.Walks.{module_versions}
use Rattle.rules.proofs.Tables.{map_entered, entered_all_push, entered_all_append, entered_all_least}
use Rattle.ordered.specs.Places.{sought, sought_by}
use Rattle.names.specs.Paths.{plain_path_order}
use Rattle.versions.specs.Values.{plain_version_bytes}
use Rattle.modules.specs.Rows.{row_names, row_path}
use Rattle.modules.specs.declared.rows.Row.{Row}
use Rattle.walks.specs.declared.place.Place.{Place}
use Rattle.walks.specs.Places.{place_of}
use Rattle.walks.specs.Views.{entered_off}

-- by the place of its key: the item there met, or the new one put there
module _ {A K : Type 0} (key : A → K) (order : K → K → Ordering) (meet : A → A → A) (x : A) where
  abbrev Put : List A → List A → Result ℕ ℕ → Type 0
  Put xs zs r = MatchResult r (λ i. zs ≡ set xs i (meet x (get_or xs i x))) (λ i. zs ≡ insert xs i x)

  put : (xs : List A) → Put xs (entered key order meet x xs) (sought key order (key x) xs)
  put [] = refl
  put (y ∷ ys) = go (order (key x) (key y)) (sought key order (key x) ys) (put ys)
    where
      go : (o : Ordering) (r : Result ℕ ℕ) → Put ys (entered key order meet x ys) r → Put (y ∷ ys) (entered_by key order o meet x y ys (entered key order meet x ys)) (sought_by key order o r)
      go Less r h = refl
      go Equal r h = refl
      go Greater (Ok i) h = ap (λ zs. y ∷ zs) h
      go Greater (Err i) h = ap (λ zs. y ∷ zs) h

-- of two rows of one path the higher
abbrev higher_row : Row → Row → Row
higher_row a b = cond (is_lt (version_order (plain_version_bytes a.version) (plain_version_bytes b.version))) b a

higher_names : (a b : Row) → row_names (higher_row a b) ≡ higher (row_names a) (row_names b)
higher_names a b = go (is_lt (version_order (plain_version_bytes a.version) (plain_version_bytes b.version)))
  where
    go : (t : Bool) → row_names (cond t b a) ≡ cond t (row_names b) (row_names a)
    go true = refl
    go false = refl

-- an order is at least, or less
less_unless : (o : Ordering) (b : Bool) → b ≡ is_ge o → is_lt o ≡ not b
less_unless Less b e = ap not (sym e)
less_unless Equal b e = ap not (sym e)
less_unless Greater b e = ap not (sym e)

module _ (rows : List Row) (x : Row) (i : ℕ) where
  named : map row_names (entered row_path plain_path_order higher_row x rows) ≡ with_row (row_names x) (map row_names rows)
  named = map_entered row_path plain_path_order path_of path_order row_names (λ a b. refl) higher_row higher higher_names x rows

  module _ (there : Ok i ≡ sought row_path plain_path_order x.path rows) (y : Row) (within : i < length rows) (read : y ≡ get_or rows i y) where
    met : with_row (row_names x) (map row_names rows) ≡ map row_names (set rows i (higher_row x y))
    met =
        sym named
        ∙ ap (map row_names) (MatchResult-at_ok (λ j. entered row_path plain_path_order higher_row x rows ≡ set rows j (higher_row x (get_or rows j x))) (λ j. entered row_path plain_path_order higher_row x rows ≡ insert rows j x) i (sym there) (put row_path plain_path_order higher_row x rows))
        ∙ ap (λ z. map row_names (set rows i (higher_row x z))) (get_or_default rows i x y within ∙ sym read)

    -- the row that is there is higher
    pub enter_lower : false ≡ is_ge (version_order (row_names x).version (row_names y).version) → map row_names rows ≡ with_row (row_names x) (map row_names rows)
    enter_lower t =
        sym (met ∙ ap (λ b. map row_names (set rows i (cond b y x))) (less_unless (version_order (row_names x).version (row_names y).version) false t)
        ∙ ap (λ z. map row_names (set rows i z)) read ∙ ap (map row_names) (set-get_or rows i y))

    -- it is not
    pub enter_higher : true ≡ is_ge (version_order (row_names x).version (row_names y).version) → map row_names (set rows i x) ≡ with_row (row_names x) (map row_names rows)
    enter_higher t = sym (met ∙ ap (λ b. map row_names (set rows i (cond b y x))) (less_unless (version_order (row_names x).version (row_names y).version) true t))

  -- there is none
  pub enter_new : Err i ≡ sought row_path plain_path_order x.path rows → map row_names (insert rows i x) ≡ with_row (row_names x) (map row_names rows)
  enter_new none = ap (map row_names) (sym (MatchResult-at_err (λ j. entered row_path plain_path_order higher_row x rows ≡ set rows j (higher_row x (get_or rows j x))) (λ j. entered row_path plain_path_order higher_row x rows ≡ insert rows j x) i (sym none) (put row_path plain_path_order higher_row x rows))) ∙ named

-- one row more of a sheet
module _ (main : Bytes) where
  abbrev tabled : List ModuleVersion → List ModuleVersion
  tabled xs = table (off_main main xs)

  off_push : (xs : List ModuleVersion) (x : ModuleVersion) → tabled (xs ++ x ∷ []) ≡ entered_off main x (tabled xs)
  off_push xs x = ap table (filter-append (λ y. not (same_path y main)) xs (x ∷ [])) ∙ go (same_path x main)
    where
      go : (b : Bool) → table (off_main main xs ++ cond (not b) (x ∷ []) []) ≡ cond b (tabled xs) (with_row x (tabled xs))
      go true = ap table (append-nil (off_main main xs))
      go false = entered_all_push path_of path_order higher [] (off_main main xs) x

  off_most : (xs ys : List ModuleVersion) → length (tabled xs) ≤ length (tabled (xs ++ ys))
  off_most xs ys =
      let e = ap table (filter-append (λ y. not (same_path y main)) xs ys) ∙ entered_all_append path_of path_order higher [] (off_main main xs) (off_main main ys) in
      omega (arith, ap length e, entered_all_least path_of path_order higher (tabled xs) (off_main main ys))

  module _ (ps : List Place) where
    abbrev pub tabled_upto : ℕ → List ModuleVersion
    tabled_upto i = tabled (module_versions (map place_of (take i ps)))

    split_names : (i : ℕ) → module_versions (map place_of ps) ≡ module_versions (map place_of (take i ps)) ++ module_versions (map place_of (drop i ps))
    split_names i =
        ap (λ qs. module_versions (map place_of qs)) (sym (take-append-drop i ps))
        ∙ ap module_versions (map-append place_of (take i ps) (drop i ps))
        ∙ map-append (λ r. r.row) (map place_of (take i ps)) (map place_of (drop i ps))

    pub tabled_fits : (i : ℕ) → length (tabled_upto i) ≤ length (tabled (module_versions (map place_of ps)))
    tabled_fits i = omega (arith, off_most (module_versions (map place_of (take i ps))) (module_versions (map place_of (drop i ps))), ap (λ xs. length (tabled xs)) (split_names i))

    pub tabled_more : (i : ℕ) (p d : Place) → i < length ps → p ≡ get_or ps i d → entered_off main (row_names p.row) (tabled_upto i) ≡ tabled_upto (i + 1)
    tabled_more i p d h read =
        ap (λ (q : Place). entered_off main (row_names q.row) (tabled_upto i)) read
        ∙ sym (ap (λ qs. tabled (module_versions qs)) (map_more place_of ps i d h)
        ∙ ap tabled (map-append (λ r. r.row) (map place_of (take i ps)) (place_of (get_or ps i d) ∷ []))
        ∙ off_push (module_versions (map place_of (take i ps))) (row_names (get_or ps i d).row))

    pub tabled_all : (i : ℕ) → length ps ≤ i → tabled_upto i ≡ tabled (module_versions (map place_of ps))
    tabled_all i h = ap (λ qs. tabled (module_versions (map place_of qs))) (take_all i ps h)
