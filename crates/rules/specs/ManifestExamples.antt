-- Worked manifests: texts, with what reading them gives. Examples computes them. Assumes nothing.
use Rattle.std.specs.Prelude.{List, [], ◌∷◌, codes}
use Rattle.rules.specs.Orders.{Bytes}
use Rattle.rules.specs.Names.{ModuleVersion}
use Rattle.rules.specs.Causes.{bad_byte, wrong_shape, bad_path, bad_version, module_line, row_too_many}
use Rattle.rules.specs.Manifests.{Reading, manifest, unread}

abbrev pub row : Bytes → Bytes → ModuleVersion
row p v = record { path = p; version = v }

abbrev pub read : Bytes → List ModuleVersion → List ModuleVersion → Reading
read m rs es = manifest (record { main = m; requires = rs; excludes = es })

-- texts, with what reading them with room for two require rows gives
abbrev pub texts : List (Bytes × Reading)
texts =
    (codes "module upper\nrequire trunk v1.0.0 // direct\nrequire (\n\train v1.0.0\r\n)\n", read (codes "upper") (row (codes "trunk") (codes "v1.0.0") ∷ row (codes "rain") (codes "v1.0.0") ∷ []) [])
    ∷ (codes "go 1.16\nexclude (\n a v1.0.0\n)\nmodule m", read (codes "m") [] (row (codes "a") (codes "v1.0.0") ∷ []))
    ∷ (codes "module m\nretract v1.0.0 because\nreplace (\n a => b v1\n)\n", read (codes "m") [] [])
    ∷ (codes "", unread module_line 0)
    ∷ (codes "module m\nmodule m\n", unread module_line 2)
    ∷ (codes "module m\nmodule ///\n", unread wrong_shape 2)
    ∷ (codes "module m\nmodule .m\n", unread bad_path 2)
    ∷ (codes "module m // \"quoted\"\nrequire \"a\" v1.0.0", unread bad_byte 2)
    ∷ (codes "require a v1.0\nmodule m", unread bad_version 1)
    ∷ (codes "require a. v1.0\nmodule m", unread bad_path 1)
    ∷ (codes "module m\n\n(\n", unread wrong_shape 3)
    ∷ (codes "module m\nrequire (\na v1.0.0 )\n", unread wrong_shape 3)
    ∷ (codes "module (\n", unread wrong_shape 1)
    ∷ (codes "module m\nretract (\n", unread wrong_shape 0)
    ∷ (codes "module m\nrequire (\na v1.0.0\na v1.0.0\na v1.0.0\n)", unread row_too_many 5)
    ∷ []
