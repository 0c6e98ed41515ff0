-- What a tree says. The first file of a module version's name is its manifest: the require rows of its body, at most 64, are the list; its
-- module path and its exclude rows are checked and have no effect; a fault in reading it is the fault, at its line. The versions of a path are
-- those that names hold for it. Other names are passed over. Assumes nothing.
use Rattle.std.specs.Prelude.{Bool, ◌&&◌, List, Option}
use Rattle.std.specs.Str.{bytes_eq}
use Rattle.rules.specs.Orders.{Bytes}
use Rattle.rules.specs.Names.{ModuleVersion, is_module_version}
use Rattle.rules.specs.Manifests.{Reading, manifest, unread, reading}
use Rattle.rules.specs.Sources.{Answer, found, fault, Meaning}
use Rattle.fields.specs.Pairs.{Pair, pairs_in}
use Rattle.bottoms.specs.Items.{meaning_of}
use Rattle.tree.specs.Filenames.{dot_mod, file_name, version_held}

abbrev pub is_file_of : ModuleVersion → Pair → Bool
is_file_of x file = is_module_version x && bytes_eq file.first (file_name dot_mod x)

abbrev pub reading_answer : Reading → Answer (List ModuleVersion)
reading_answer (manifest m) = found m.requires
reading_answer (unread c line) = fault (record { cause = c; place = line; depth = 0 })

abbrev pub body_answer : Bytes → Answer (List ModuleVersion)
body_answer body = reading_answer (reading 64 body)

abbrev pub file_answer : Pair → Answer (List ModuleVersion)
file_answer file = body_answer file.second

abbrev pub file_version : Bytes → Pair → Option Bytes
file_version p file = version_held dot_mod p file.first

abbrev pub tree_meaning : Bytes → Meaning
tree_meaning bs = meaning_of is_file_of file_answer file_version (pairs_in bs)

-- the body of a file that is found
abbrev pub file_body : Pair → Bytes
file_body file = file.second
