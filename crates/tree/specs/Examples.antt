-- Worked trees, computed: file names, which buffers are accepted, and what a tree answers. And what it is that a name holds a version: it is
-- the name of the path and that version, which is well formed. Assumes nothing.
use Rattle.std.specs.Prelude.{◌≡◌, true, ◌↔◌, List, [], ◌∷◌, ◌++◌, map, Some, None, Ok, codes, Option}
use Rattle.rules.specs.Orders.{Bytes}
use Rattle.rules.specs.Versions.{is_version}
use Rattle.rules.specs.Causes.{bad_version, damaged_buffer}
use Rattle.rules.specs.Names.{ModuleVersion, at}
use Rattle.rules.specs.Sources.{Answer, found, fault, missing_here}
use Rattle.fields.specs.Openings.{Opening, refused_at}
use Rattle.fields.specs.Samples.{field}
use Rattle.tree.specs.Grammar.{tag_N, tag_B, opening}
use Rattle.tree.specs.Filenames.{dot_mod, file_name, version_held}
use Rattle.tree.specs.Files.{tree_meaning}

abbrev pub file : Bytes → Bytes → Bytes
file name body = field tag_N name ++ field tag_B body

-- two files of one name, a body that cannot be read, and names that hold no version
abbrev pub sample : Bytes
sample =
    file (codes "up/!a/@v/v1.0.0.mod") (codes "module m\nrequire b v0.1.0\nexclude b v9.0.0\n")
    ++ (file (codes "up/!a/@v/v1.0.0.mod") (codes "")
    ++ (file (codes "up/!a/@v/v0.1.0-!r.mod") (codes "module m\nrequire b 9\n")
    ++ (file (codes "up/!a/@v/v2.0.0.zip") [] ++ (file (codes "up/A/@v/v3.0.0.mod") [] ++ file [] []))))

-- buffers, with what opening them gives
abbrev pub openings : List (Bytes × Opening)
openings =
    ([], Ok tt)
    ∷ (sample, Ok tt)
    ∷ (tag_N ∷ 0 ∷ 1 ∷ [], refused_at 0 damaged_buffer)
    ∷ (field tag_N [], refused_at 3 damaged_buffer)
    ∷ (field tag_N [] ++ field tag_N [], refused_at 3 damaged_buffer)
    ∷ (file [] [] ++ field tag_B [], refused_at 6 damaged_buffer)
    ∷ []

-- names, with the version that they hold for up/A
abbrev pub names : List (Bytes × Option Bytes)
names =
    (file_name dot_mod (at (codes "up/A") (codes "v1.0.0-RC")), Some (codes "v1.0.0-RC"))
    ∷ (codes "up/!a/@v/v1.0.0.mod", Some (codes "v1.0.0"))
    ∷ (codes "up/!a/@v/v1.0.mod", None)
    ∷ (codes "up/!a/@v/v1.0.0-RC.mod", None)
    ∷ (codes "up/A/@v/v1.0.0.mod", None)
    ∷ (codes "up/!a/@v/v1.0.0", None)
    ∷ []

-- questions, with what the sample answers
abbrev pub questions : List (ModuleVersion × Answer (List ModuleVersion))
questions =
    (at (codes "up/A") (codes "v1.0.0"), found (at (codes "b") (codes "v0.1.0") ∷ []))
    ∷ (at (codes "up/A") (codes "v0.1.0-R"), fault (record { cause = bad_version; place = 2; depth = 0 }))
    ∷ (at (codes "up/A") (codes "v2.0.0"), fault missing_here)
    ∷ []

pub record Trees : Type 0 where
  pub spelled : file_name dot_mod (at (codes "up/A") (codes "v1.0.0-RC")) ≡ codes "up/!a/@v/v1.0.0-!r!c.mod"
  pub opened : map (λ t. opening t.0) openings ≡ map (λ t. t.1) openings
  pub held : map (λ t. version_held dot_mod (codes "up/A") t.0) names ≡ map (λ t. t.1) names
  pub answered : map (λ t. (tree_meaning sample).requirements t.0) questions ≡ map (λ t. t.1) questions
  pub listed : (tree_meaning sample).listing (codes "up/A") ≡ found (codes "v0.1.0-R" ∷ codes "v1.0.0" ∷ [])

-- THE NAMES: a name holds a version for a path exactly if the version is well formed and the name is that of both
abbrev pub NamesRight : Type 0
NamesRight = (ending p name v : Bytes) → (version_held ending p name ≡ Some v) ↔ ((is_version v ≡ true) × (name ≡ file_name ending (at p v)))
