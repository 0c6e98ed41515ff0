-- Requirement rows: what `table` makes of a list of module versions, and that a table is told by what stands in it. Assumes nothing.
use Rattle.std.proofs.Common.{◌≡◌, Bool, true, false, cond, ◌⊎◌, List, [], ◌∷◌, Some, None, Option, sym, refl, ap, ◌∙◌, subst, inl, inr, ⊎_elim}
use Rattle.std.specs.Ordering.{is_lt}
use Rattle.rules.specs.Paths.{path_order}
use Rattle.rules.specs.Versions.{version_order}
use Rattle.rules.specs.Names.{ModuleVersion, Upto, Stands, ◌∈◌}
use Rattle.rules.specs.Tables.{Meets, met, entered_all}
use Rattle.rules.specs.Rows.{path_of, higher, AscendingRows, row_of, with_row, table}
use Rattle.rules.specs.Lists.{NowhereAbove}
use Rattle.rules.proofs.Order.{upto_refl, upto_trans, upto_antisym, upto_before, before_from_less, upto_from_not_less, before_not_equal, Ways, ways, before, equal, after, paths, versions}
use Rattle.rules.proofs.Members.{module_same}
use Rattle.rules.proofs.Tables.{one_a_key, same_members, lookup_there, lookup_finds, entered_members, entered_ascending, entered_all_ascending, entered_all_either}

-- standing

pub stands_member : (x : ModuleVersion) (xs : List ModuleVersion) → x ∈ xs → Stands x xs
stands_member x xs h = (x, h, refl, upto_refl versions x.version)

pub stands_trans : (x : ModuleVersion) (xs ys : List ModuleVersion) → Stands x xs → NowhereAbove xs ys → Stands x ys
stands_trans x xs ys (y, h, p, u) n =
    let (z, k, q, v) = n y h in
    (z, k, p ∙ q, upto_trans versions x.version y.version z.version u v)

-- the higher of two on one path

higher_either : (x y : ModuleVersion) → (higher x y ≡ x) ⊎ (higher x y ≡ y)
higher_either x y = go (is_lt (version_order x.version y.version))
  where
    go : (b : Bool) → (cond b y x ≡ x) ⊎ (cond b y x ≡ y)
    go true = inr refl
    go false = inl refl

pub higher_meets : Meets path_of path_order higher
higher_meets x y p = ⊎_elim (λ e. ap path_of e ∙ p) (λ e. ap path_of e) (higher_either x y)

higher_upto : (x y : ModuleVersion) → Upto x.version (higher x y).version × Upto y.version (higher x y).version
higher_upto x y = go (is_lt (version_order x.version y.version)) refl
  where
    go : (b : Bool) → is_lt (version_order x.version y.version) ≡ b → Upto x.version (cond b y x).version × Upto y.version (cond b y x).version
    go true e = (upto_before versions x.version y.version (before_from_less versions x.version y.version e), upto_refl versions y.version)
    go false e = (upto_refl versions x.version, upto_from_not_less versions x.version y.version e)

-- one row entered

pub with_row_ascending : (x : ModuleVersion) (t : List ModuleVersion) → AscendingRows t → AscendingRows (with_row x t)
with_row_ascending = entered_ascending path_of path_order paths higher higher_meets

module _ (x : ModuleVersion) (t : List ModuleVersion) (a : AscendingRows t) where
  -- the row that stands at the path of x
  abbrev becomes : ModuleVersion
  becomes = met path_of path_order higher x (row_of x.path t)

  becomes_in : becomes ∈ with_row x t
  becomes_in = (entered_members path_of path_order paths higher x t a becomes).1 (inl refl)

  pub with_row_stands : Stands x (with_row x t)
  with_row_stands = go (row_of x.path t) refl
    where
      go : (r : Option ModuleVersion) → row_of x.path t ≡ r → Stands x (with_row x t)
      go None e = stands_member x (with_row x t) (subst (λ r. met path_of path_order higher x r ∈ with_row x t) e becomes_in)
      go (Some y) e =
          let p = (lookup_there path_of path_order paths x.path t y e).1 in
          (higher x y, subst (λ r. met path_of path_order higher x r ∈ with_row x t) e becomes_in, sym p ∙ sym (higher_meets x y (sym p)), (higher_upto x y).0)

  pub with_row_keeps : NowhereAbove t (with_row x t)
  with_row_keeps z h = go (ways paths z.path x.path)
    where
      stays : (z.path ≡ x.path → ⊥) → Stands z (with_row x t)
      stays other = stands_member z (with_row x t) ((entered_members path_of path_order paths higher x t a z).1 (inr (h, other)))

      go : Ways path_order z.path x.path → Stands z (with_row x t)
      go (before p) = stays (before_not_equal paths z.path x.path p)
      go (equal p) =
          let e = lookup_finds path_of path_order paths x.path t z a h p in
          (higher x z, subst (λ r. met path_of path_order higher x r ∈ with_row x t) e becomes_in, sym (higher_meets x z (sym p)), (higher_upto x z).1)
      go (after p) = stays (λ q. before_not_equal paths x.path z.path p (sym q))

-- one after another

abbrev with_all : List ModuleVersion → List ModuleVersion → List ModuleVersion
with_all = entered_all path_of path_order higher

with_all_keeps : (t xs : List ModuleVersion) → AscendingRows t → NowhereAbove t (with_all t xs)
with_all_keeps t [] a z h = stands_member z t h
with_all_keeps t (x ∷ xs) a z h =
    stands_trans z (with_row x t) (with_all (with_row x t) xs) (with_row_keeps x t a z h) (with_all_keeps (with_row x t) xs (with_row_ascending x t a))

with_all_stands : (t xs : List ModuleVersion) → AscendingRows t → NowhereAbove xs (with_all t xs)
with_all_stands t [] a z h = absurd h
with_all_stands t (x ∷ xs) a z (inl e) =
    rw e (stands_trans x (with_row x t) (with_all (with_row x t) xs) (with_row_stands x t a) (with_all_keeps (with_row x t) xs (with_row_ascending x t a)))
with_all_stands t (x ∷ xs) a z (inr k) = with_all_stands (with_row x t) xs (with_row_ascending x t a) z k

-- the whole table

pub table_was : (xs : List ModuleVersion) (z : ModuleVersion) → z ∈ table xs → z ∈ xs
table_was xs z h = ⊎_elim (λ k. absurd k) (λ k. k) (entered_all_either path_of path_order paths higher higher_either [] xs z h)

pub table_stands : (xs : List ModuleVersion) → NowhereAbove xs (table xs)
table_stands xs = with_all_stands [] xs tt

pub table_ascending : (xs : List ModuleVersion) → AscendingRows (table xs)
table_ascending xs = entered_all_ascending path_of path_order paths higher higher_meets [] xs tt

-- two tables with the same standing are one

pub one_a_path : (xs : List ModuleVersion) → AscendingRows xs → (y z : ModuleVersion) → y ∈ xs → z ∈ xs → y.path ≡ z.path → y ≡ z
one_a_path = one_a_key path_of path_order paths

members_across : (xs ys : List ModuleVersion) → AscendingRows xs → NowhereAbove xs ys → NowhereAbove ys xs → (x : ModuleVersion) → x ∈ xs → x ∈ ys
members_across xs ys a f g x h =
    let (y, k, p, u) = f x h in
    let (z, j, q, v) = g y k in
    let e : z ≡ x = one_a_path xs a z x j h (sym (p ∙ q)) in
    let same : x ≡ y = module_same x y p (upto_antisym versions x.version y.version u (rw (ap (λ w. w.version) e) at v)) in
    rw same k

pub tables_same : (xs ys : List ModuleVersion) → AscendingRows xs → AscendingRows ys → NowhereAbove xs ys → NowhereAbove ys xs → xs ≡ ys
tables_same xs ys a b f g = same_members path_of path_order paths xs ys a b (members_across xs ys a f g) (members_across ys xs b g f)
