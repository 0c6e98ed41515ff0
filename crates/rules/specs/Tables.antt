-- Tables: lists that ascend by a key, one item a key. Assumes nothing.
-- The key of a path, a version or an exclusion is the thing itself; that of a requirement row is its path.
use Rattle.std.specs.Prelude.{◌≡◌, suc, ◌+◌, ◌≤◌, not, ◌⊎◌, ◌↔◌, List, [], ◌∷◌, length, Some, None, filter, Option, ◌≢◌}
use Rattle.std.specs.declared.cmp.Ordering.TheVariants.{Less, Equal, Greater}
use Rattle.std.specs.declared.cmp.Ordering.{Ordering}
use Rattle.std.specs.Ordering.{is_eq}
use Rattle.std.specs.List.{AllByRecursion}
use Rattle.rules.specs.Orders.{Laws}
use Rattle.rules.specs.Names.{◌∈◌}

-- where a new item meets an old one of its key, the old one stays
abbrev pub keep : {A : Type 0} → A → A → A
keep new old = old

module _ {A K : Type 0} (key : A → K) (order : K → K → Ordering) where
  -- each item stands before all that follow it
  abbrev pub Ascending : List A → Type 0
  Ascending [] = Unit {0}
  Ascending (x ∷ xs) = AllByRecursion (λ y. order (key x) (key y) ≡ Less) xs × Ascending xs

  -- A table is read from its first item on, and no further than to the key that is looked for: by how that key stands to the key of y, the
  -- head of a table.
  abbrev pub lookup_by : Ordering → A → Option A → Option A
  lookup_by Less y rest = None
  lookup_by Equal y rest = Some y
  lookup_by Greater y rest = rest

  -- the item at a key
  abbrev pub lookup : K → List A → Option A
  lookup k [] = None
  lookup k (y ∷ ys) = lookup_by (order k (key y)) y (lookup k ys)

  abbrev pub entered_by : Ordering → (A → A → A) → A → A → List A → List A → List A
  entered_by Less meet x y ys rest = x ∷ y ∷ ys
  entered_by Equal meet x y ys rest = meet x y ∷ ys
  entered_by Greater meet x y ys rest = y ∷ rest

  -- A table with x entered at the place of its key. Where the key is there already, `meet` makes one item of the new and the old.
  abbrev pub entered : (A → A → A) → A → List A → List A
  entered meet x [] = x ∷ []
  entered meet x (y ∷ ys) = entered_by (order (key x) (key y)) meet x y ys (entered meet x ys)

  -- one after another entered
  abbrev pub entered_all : (A → A → A) → List A → List A → List A
  entered_all meet t [] = t
  entered_all meet t (x ∷ xs) = entered_all meet (entered meet x t) xs

  -- two tables joined: the first, with what the second has besides
  abbrev pub joined : List A → List A → List A
  joined = entered_all keep

  abbrev pub removed_by : Ordering → A → List A → List A → List A
  removed_by Less y ys rest = y ∷ ys
  removed_by Equal y ys rest = ys
  removed_by Greater y ys rest = y ∷ rest

  -- a table without the item at a key
  abbrev pub removed : K → List A → List A
  removed k [] = []
  removed k (y ∷ ys) = removed_by (order k (key y)) y ys (removed k ys)

  -- ---- what these are, in members

  -- an item of the table is at the key
  abbrev pub Present : K → List A → Type 0
  Present k t = (y : A) × (y ∈ t) × (key y ≡ k)

  -- none is
  abbrev pub Absent : K → List A → Type 0
  Absent k t = (y : A) → y ∈ t → key y ≢ k

  -- two items of one key meet in an item of that key
  abbrev pub Meets : (A → A → A) → Type 0
  Meets meet = (x y : A) → key x ≡ key y → key (meet x y) ≡ key y

  -- what x becomes where an item may stand already
  abbrev pub met : (A → A → A) → A → Option A → A
  met meet x None = x
  met meet x (Some y) = meet x y

  -- The laws of tables: t and u are tables.
  pub record TableLaws : Type 0 where
    -- two tables that hold the same are the same
    pub same : (t u : List A) → Ascending t → Ascending u → ((z : A) → (z ∈ t) ↔ (z ∈ u)) → t ≡ u
    -- lookup finds the item at a key, if there is one
    pub finds : (k : K) (t : List A) → Ascending t → (y : A) → (lookup k t ≡ Some y) ↔ ((y ∈ t) × (key y ≡ k))
    pub misses : (k : K) (t : List A) → Ascending t → (lookup k t ≡ None) ↔ Absent k t
    -- x entered is a table again, of what x becomes and the items at other keys; it is longer by one if the key was absent
    pub entered_ascending : (meet : A → A → A) → Meets meet → (x : A) (t : List A) → Ascending t → Ascending (entered meet x t)
    pub entered_members : (meet : A → A → A) (x : A) (t : List A) → Ascending t → (z : A)
        → (z ∈ entered meet x t) ↔ ((z ≡ met meet x (lookup (key x) t)) ⊎ ((z ∈ t) × (key z ≢ key x)))
    pub entered_new : (meet : A → A → A) (x : A) (t : List A) → Ascending t → Absent (key x) t → length (entered meet x t) ≡ suc (length t)
    pub entered_old : (meet : A → A → A) (x : A) (t : List A) → Ascending t → Present (key x) t → length (entered meet x t) ≡ length t
    -- two tables joined are a table again, of the first's items and the second's at keys that the first lacks
    pub joined_ascending : (t u : List A) → Ascending t → Ascending (joined t u)
    pub joined_members : (t u : List A) → Ascending t → Ascending u → (z : A) → (z ∈ joined t u) ↔ ((z ∈ t) ⊎ ((z ∈ u) × Absent (key z) t))
    pub joined_least : (t u : List A) → length t ≤ length (joined t u)
    pub joined_most : (t u : List A) → length (joined t u) ≤ length t + length u
    pub joined_nothing : (t : List A) → Ascending t → joined [] t ≡ t
    -- without the item at a key it is a table again, of the items at other keys
    pub removed_ascending : (k : K) (t : List A) → Ascending t → Ascending (removed k t)
    pub removed_members : (k : K) (t : List A) → Ascending t → (z : A) → (z ∈ removed k t) ↔ ((z ∈ t) × (key z ≢ k))
    pub removed_kept : (k : K) (t : List A) → Ascending t → removed k t ≡ filter (λ y. not (is_eq (order (key y) k))) t
    pub removed_old : (k : K) (t : List A) → Ascending t → Present k t → suc (length (removed k t)) ≡ length t
    pub removed_new : (k : K) (t : List A) → Ascending t → Absent k t → removed k t ≡ t

-- THE TABLES: so it is by every key and every order of the keys that obeys the laws.
abbrev pub TablesRight : Type 0 → Type 0 → Type 0
TablesRight A K = (key : A → K) (order : K → K → Ordering) → Laws order → TableLaws key order
