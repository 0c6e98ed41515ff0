-- A look through rows, and the ceilings made of them. Assumes nothing.
use Rattle.std.proofs.Common.{◌≡◌, ℕ, ◌+◌, ◌<◌, ◌≤◌, Bool, true, false, ◌&&◌, ◌||◌, cond, List, [], ◌∷◌, ◌++◌, map, length, get_or, take, sym, refl, ap, ◌∙◌, subst, arith}
use Rattle.std.specs.Ordering.{is_lt, is_eq}
use Rattle.std.specs.List.{AllByRecursion, list_any}
use Rattle.std.proofs.lemmas.Bool.{and_parts, and_from}
use Rattle.std.proofs.lemmas.List.{length-append, map_push, map_more, take_all}
use Rattle.rules.specs.Orders.{Bytes}
use Rattle.rules.specs.Texts.{every}
use Rattle.rules.specs.Paths.{is_path, path_order}
use Rattle.rules.specs.Versions.{version_order}
use Rattle.rules.specs.Names.{ModuleVersion, same_path, at}
use Rattle.rules.specs.Rows.{AscendingRows, path_of}
use Rattle.rules.specs.Lowers.{some, ceiling_of, is_above}
use Rattle.ordered.specs.Ascents.{is_ascending}
use Rattle.ordered.proofs.Ascents.{passes, passed}
use Rattle.modules.proofs.Raises.{ascending_keys}
use Rattle.modules.specs.Rows.{row_names}
use Rattle.modules.specs.declared.rows.Row.{Row}
use Rattle.lowers.specs.declared.ceilings.Ceilings.{Ceilings}
use Rattle.lowers.specs.Ceilings.{ceiling_rows}

-- whether one of the rows passes a test
pub some_is : (test : ModuleVersion → Bool) (rows : List Row) → list_any (λ x. test (row_names x)) rows ≡ some test (map row_names rows)
some_is test [] = refl
some_is test (x ∷ xs) = ap (λ (b : Bool). test (row_names x) || b) (some_is test xs)

-- whether a row is above its ceiling
abbrev pub over : ModuleVersion → ModuleVersion → Bool
over x c = is_eq (path_order c.path x.path) && is_lt (version_order c.version x.version)

pub above_is : (x : ModuleVersion) (rows : List Row) → list_any (λ c. over x (row_names c)) rows ≡ is_above (map row_names rows) x
above_is x [] = refl
above_is x (c ∷ cs) = ap (λ (b : Bool). over x (row_names c) || b) (above_is x cs)

-- the ceilings of the rows that were gone through
module _ (p v : Bytes) (rows : List Row) where
  abbrev pub Ceiled : List Row → ℕ → Type 0
  Ceiled cs i = (length cs ≡ i) × (map row_names cs ≡ map (ceiling_of p v) (map row_names (take i rows)))

  pub ceiled_more : (cs : List Row) (i : ℕ) → Ceiled cs i → (x c : Row) → i < length rows → x ≡ get_or rows i x → row_names c ≡ ceiling_of p v (row_names x) → Ceiled (cs ++ c ∷ []) (i + 1)
  ceiled_more cs i (n, e) x c h read is = (
    omega (arith, n, length-append cs (c ∷ [])),
    map_push row_names cs c
        ∙ ap (λ (ys : List ModuleVersion). ys ++ row_names c ∷ []) e
        ∙ ap (λ (y : ModuleVersion). map (ceiling_of p v) (map row_names (take i rows)) ++ y ∷ []) (is ∙ ap (λ (y : Row). ceiling_of p v (row_names y)) read)
        ∙ sym (ap (map (ceiling_of p v)) (map_more row_names rows i x h) ∙ map_push (ceiling_of p v) (map row_names (take i rows)) (row_names (get_or rows i x))),
  )

  pub ceiled_all : (cs : List Row) (i : ℕ) → Ceiled cs i → length rows ≤ i → map row_names cs ≡ map (ceiling_of p v) (map row_names rows)
  ceiled_all cs i (n, e) h = e ∙ ap (λ (ys : List Row). map (ceiling_of p v) (map row_names ys)) (take_all i rows h)

-- a ceiling is on the path that it is over
module _ (p v : Bytes) where
  path_stays : (x : ModuleVersion) → (ceiling_of p v x).path ≡ x.path
  path_stays x = go (same_path x p)
    where
      go : (b : Bool) → (cond b (at x.path v) x).path ≡ x.path
      go true = refl
      go false = refl

  paths_stay : (xs : List ModuleVersion) → map path_of (map (ceiling_of p v) xs) ≡ map path_of xs
  paths_stay [] = refl
  paths_stay (x ∷ xs) = ap (λ (q : Bytes). q ∷ map path_of (map (ceiling_of p v) xs)) (path_stays x) ∙ ap (λ (qs : List Bytes). x.path ∷ qs) (paths_stay xs)

  pub over_all : (P : Bytes → Type 0) (xs : List ModuleVersion) → AllByRecursion (λ x. P x.path) xs → AllByRecursion (λ c. P c.path) (map (ceiling_of p v) xs)
  over_all P [] h = tt
  over_all P (x ∷ xs) h = (subst P (sym (path_stays x)) h.0, over_all P xs h.1)

  pub over_ascending : (xs : List ModuleVersion) → AscendingRows xs → is_ascending path_of path_order (map (ceiling_of p v) xs) ≡ true
  over_ascending xs up = ascending_keys path_of path_order xs (map (ceiling_of p v) xs) (paths_stay xs) (passes path_of path_order xs up)

  pub over_formed : (xs : List ModuleVersion) → AllByRecursion (λ x. is_path x.path ≡ true) xs → every (λ c. is_path c.path) (map (ceiling_of p v) xs) ≡ true
  over_formed xs h = go (map (ceiling_of p v) xs) (over_all (λ q. is_path q ≡ true) xs h)
    where
      go : (cs : List ModuleVersion) → AllByRecursion (λ c. is_path c.path ≡ true) cs → every (λ c. is_path c.path) cs ≡ true
      go [] k = refl
      go (c ∷ cs) k = and_from _ _ k.0 (go cs k.1)

-- what is known of ceilings
pub ceilings_up : (c : Ceilings) → AscendingRows (ceiling_rows c)
ceilings_up c = passed path_of path_order (ceiling_rows c) c.ascending

pub ceilings_formed : (c : Ceilings) → AllByRecursion (λ x. is_path x.path ≡ true) (ceiling_rows c)
ceilings_formed c = go (ceiling_rows c) c.formed
  where
    go : (cs : List ModuleVersion) → every (λ x. is_path x.path) cs ≡ true → AllByRecursion (λ x. is_path x.path ≡ true) cs
    go [] e = tt
    go (x ∷ xs) e = let (here, there) = and_parts (is_path x.path) (every (λ y. is_path y.path) xs) e in (here, go xs there)
