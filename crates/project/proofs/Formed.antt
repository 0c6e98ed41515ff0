-- Rows that pass a test still do in a table: entered, taken out, and each by itself. Assumes nothing.
use Rattle.std.proofs.Common.{◌≡◌, ℕ, zero, suc, ◌<◌, Bool, true, false, cond, List, [], ◌∷◌, length, get_or, Ordering, Less, Equal, Greater, refl, arith}
use Rattle.std.specs.Ordering.{is_lt}
use Rattle.std.proofs.lemmas.Bool.{and_parts, and_from}
use Rattle.rules.specs.Orders.{Bytes}
use Rattle.rules.specs.Names.{ModuleVersion, is_module_version}
use Rattle.rules.specs.Paths.{path_order}
use Rattle.rules.specs.Versions.{version_order}
use Rattle.rules.specs.Texts.{every}
use Rattle.rules.specs.Tables.{entered_by, entered, entered_all, removed_by, removed}
use Rattle.rules.specs.Rows.{path_of, higher, with_row, without_row, table}
use Rattle.modules.specs.Rows.{names_of}
use Rattle.modules.specs.declared.rows.ModuleVersion as V

module _ {A K : Type 0} (key : A → K) (order : K → K → Ordering) (test : A → Bool) where
  module _ (meet : A → A → A) (meets : (x y : A) → test x ≡ true → test y ≡ true → test (meet x y) ≡ true) where
    every_entered : (x : A) (t : List A) → test x ≡ true → every test t ≡ true → every test (entered key order meet x t) ≡ true
    every_entered x [] p h = and_from _ _ p refl
    every_entered x (y ∷ ys) p h = let (q, r) = and_parts (test y) (every test ys) h in go (order (key x) (key y)) q r (every_entered x ys p r)
      where
        go : (o : Ordering) → test y ≡ true → every test ys ≡ true → every test (entered key order meet x ys) ≡ true → every test (entered_by key order o meet x y ys (entered key order meet x ys)) ≡ true
        go Less q r more = and_from _ _ p (and_from _ _ q r)
        go Equal q r more = and_from _ _ (meets x y p q) r
        go Greater q r more = and_from _ _ q more

    every_entered_all : (t xs : List A) → every test t ≡ true → every test xs ≡ true → every test (entered_all key order meet t xs) ≡ true
    every_entered_all t [] h k = h
    every_entered_all t (x ∷ xs) h k = let (p, q) = and_parts (test x) (every test xs) k in every_entered_all (entered key order meet x t) xs (every_entered x t p h) q

  every_removed : (k : K) (t : List A) → every test t ≡ true → every test (removed key order k t) ≡ true
  every_removed k [] h = refl
  every_removed k (y ∷ ys) h = let (q, r) = and_parts (test y) (every test ys) h in go (order k (key y)) q r (every_removed k ys r)
    where
      go : (o : Ordering) → test y ≡ true → every test ys ≡ true → every test (removed key order k ys) ≡ true → every test (removed_by key order o y ys (removed key order k ys)) ≡ true
      go Less q r less = and_from _ _ q r
      go Equal q r less = r
      go Greater q r less = and_from _ _ q less

pub every_at : {A : Type 0} (test : A → Bool) (xs : List A) (i : ℕ) (d : A) → every test xs ≡ true → i < length xs → test (get_or xs i d) ≡ true
every_at test [] i d h l = absurd (omega arith)
every_at test (x ∷ xs) zero d h l = (and_parts (test x) (every test xs) h).0
every_at test (x ∷ xs) (suc i) d h l = every_at test xs i d (and_parts (test x) (every test xs) h).1 (omega arith)

-- of two well-formed rows the higher one is well formed
higher_formed : (x y : ModuleVersion) → is_module_version x ≡ true → is_module_version y ≡ true → is_module_version (higher x y) ≡ true
higher_formed x y p q = go (is_lt (version_order x.version y.version))
  where
    go : (b : Bool) → is_module_version (cond b y x) ≡ true
    go true = q
    go false = p

pub formed_with : (x : ModuleVersion) (t : List ModuleVersion) → is_module_version x ≡ true → every is_module_version t ≡ true → every is_module_version (with_row x t) ≡ true
formed_with = every_entered path_of path_order is_module_version higher higher_formed

pub formed_table : (xs : List ModuleVersion) → every is_module_version xs ≡ true → every is_module_version (table xs) ≡ true
formed_table xs = every_entered_all path_of path_order is_module_version higher higher_formed [] xs refl

pub formed_without : (p : Bytes) (t : List ModuleVersion) → every is_module_version t ≡ true → every is_module_version (without_row p t) ≡ true
formed_without = every_removed path_of path_order is_module_version

pub formed_names : (m : V.ModuleVersion) → is_module_version (names_of m) ≡ true
formed_names m = and_from _ _ m.path.ok m.version.ok
