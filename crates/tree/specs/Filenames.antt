-- The names of files. That of a module version is its path, `/@v/`, its version and an ending, the path and the version with an exclamation
-- mark and the lower-case letter for each upper-case one. A name holds a version for a path if it is such a name, of a well-formed version.
-- Assumes nothing.
use Rattle.std.specs.Prelude.{cond, [], ◌∷◌, ◌++◌, Some, None, codes, Option, ◌==◌}
use Rattle.std.specs.Option.{option_map}
use Rattle.std.specs.Bool.{then_some}
use Rattle.std.specs.Str.{bytes_eq}
use Rattle.rules.specs.Orders.{Bytes}
use Rattle.rules.specs.Versions.{is_version}
use Rattle.rules.specs.Names.{ModuleVersion}
use Rattle.tree.specs.Escapes.{escaped, unescaped}

-- between the path and the version
abbrev pub between : Bytes
between = codes "/@v/"

-- the ending of a manifest's name
abbrev pub dot_mod : Bytes
dot_mod = codes ".mod"

abbrev pub file_name : Bytes → ModuleVersion → Bytes
file_name ending x = escaped x.path ++ (between ++ (escaped x.version ++ ending))

-- what stands behind a text that begins another
abbrev pub behind : Bytes → Bytes → Option Bytes
behind [] bs = Some bs
behind (a ∷ text) [] = None
behind (a ∷ text) (b ∷ bs) = cond (a == b) (behind text bs) None

-- what stands before a text that ends another
abbrev pub before : Bytes → Bytes → Option Bytes
before ending [] = then_some (bytes_eq [] ending) []
before ending (b ∷ bs) = cond (bytes_eq (b ∷ bs) ending) (Some []) (option_map (λ f. b ∷ f) (before ending bs))

abbrev pub bound : {A B : Type 0} → (A → Option B) → Option A → Option B
bound f None = None
bound f (Some a) = f a

abbrev pub formed_version : Bytes → Option Bytes
formed_version v = then_some (is_version v) v

-- the version that is written
abbrev pub version_written : Bytes → Option Bytes
version_written bs = bound formed_version (unescaped bs)

-- the version that a name holds for a path
abbrev pub version_held : Bytes → Bytes → Bytes → Option Bytes
version_held ending p name = bound version_written (bound (before ending) (bound (behind between) (behind (escaped p) name)))

-- ---- on the way

-- what stands behind the path and the version of a name
abbrev pub version_behind : Bytes → ModuleVersion → Option Bytes
version_behind name x = bound (behind (escaped x.version)) (bound (behind between) (behind (escaped x.path) name))
