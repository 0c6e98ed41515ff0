-- Module versions, their order, and the tests on them. Assumes nothing.
-- A module is a path; a module version is a path with a version. A row of a table or a slice is a module version too: the bytes of both.
use Rattle.std.specs.Prelude.{◌≡◌, Bool, true, false, ◌&&◌, ◌||◌, ◌⊎◌, List, [], ◌∷◌}
use Rattle.std.specs.declared.cmp.Ordering.TheVariants.{Less}
use Rattle.std.specs.declared.cmp.Ordering.{Ordering}
use Rattle.std.specs.Ordering.{is_eq, ordering_then}
use Rattle.rules.specs.Orders.{Bytes, AtOrBelow, Laws}
use Rattle.rules.specs.Paths.{is_path, path_order}
use Rattle.rules.specs.Versions.{is_version, parts, precedence, version_order}

infix 40 ◌∈◌
-- a path stands before another
abbrev pub Before : Bytes → Bytes → Type 0
Before a b = path_order a b ≡ Less

-- a version is below another
abbrev pub Below : Bytes → Bytes → Type 0
Below a b = version_order a b ≡ Less

-- a version is another, or below it
abbrev pub Upto : Bytes → Bytes → Type 0
Upto = AtOrBelow version_order

pub record ModuleVersion : Type 0 where
  pub path : Bytes
  pub version : Bytes

abbrev pub at : Bytes → Bytes → ModuleVersion
at p v = record { path = p; version = v }

-- both of its texts are well formed
abbrev pub is_module_version : ModuleVersion → Bool
is_module_version x = is_path x.path && is_version x.version

-- by path, and then by version
abbrev pub module_order : ModuleVersion → ModuleVersion → Ordering
module_order x y = ordering_then (path_order x.path y.path) (version_order x.version y.version)

abbrev pub same_path : ModuleVersion → Bytes → Bool
same_path x p = is_eq (path_order x.path p)

abbrev pub same : ModuleVersion → ModuleVersion → Bool
same x y = is_eq (path_order x.path y.path) && is_eq (version_order x.version y.version)

-- x is one of the list
abbrev pub ◌∈◌ : {A : Type 0} → A → List A → Type 0
x ∈ [] = ⊥
x ∈ (y ∷ ys) = (x ≡ y) ⊎ (x ∈ ys)

-- none is in the list twice
abbrev pub Distinct : {A : Type 0} → List A → Type 0
Distinct [] = Unit {0}
Distinct (x ∷ xs) = (x ∈ xs → ⊥) × Distinct xs

-- whether x is one of the list
abbrev pub has : List ModuleVersion → ModuleVersion → Bool
has [] x = false
has (y ∷ ys) x = same x y || has ys x

-- x stands in the list: its path is there, at its version or higher
abbrev pub Stands : ModuleVersion → List ModuleVersion → Type 0
Stands x ys = (y : ModuleVersion) × (y ∈ ys) × (x.path ≡ y.path) × Upto x.version y.version

-- THE ORDERS: those of paths, of versions and of module versions obey the laws. Two versions stand by SemVer precedence, so that no two
-- different ones have the same; and what is no version is below every version.
pub record OrdersRight : Type 0 where
  pub paths : Laws path_order
  pub versions : Laws version_order
  pub module_versions : Laws module_order
  pub precede : (a b : Bytes) → is_version a ≡ true → is_version b ≡ true → version_order a b ≡ precedence (parts a) (parts b)
  pub below : (a b : Bytes) → is_version a ≡ false → is_version b ≡ true → version_order a b ≡ Less
