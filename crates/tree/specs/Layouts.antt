-- Which files of a folder are manifests. That of a module version stands in the folder of its path, behind which comes `/@v`, and is named for
-- its version with the ending `.mod`; path and version as they are written in file names. Assumes nothing.
use Rattle.std.specs.Prelude.{◌≡◌, true, ◌↔◌, ◌++◌, length, Some, None, codes, Option, nat_le}
use Rattle.std.specs.Bool.{then_some}
use Rattle.rules.specs.Orders.{Bytes}
use Rattle.rules.specs.Names.{ModuleVersion, is_module_version, at}
use Rattle.tree.specs.Escapes.{escaped, unescaped}
use Rattle.tree.specs.Filenames.{dot_mod, before, bound}

-- behind the path, in the name of the folder
abbrev pub at_v : Bytes
at_v = codes "/@v"

-- a text that has at most 48 bytes
abbrev pub held : Bytes → Option Bytes
held t = then_some (nat_le (length t) 48) t

-- the text that is written, if it can be held
abbrev pub text_written : Bytes → Option Bytes
text_written bs = bound held (unescaped bs)

abbrev pub formed : Option Bytes → Option Bytes → Option ModuleVersion
formed None v = None
formed (Some p) None = None
formed (Some p) (Some v) = then_some (is_module_version (at p v)) (at p v)

-- the module version whose manifest is the file of the folder
abbrev pub laid_out : Bytes → Bytes → Option ModuleVersion
laid_out folder file = formed (bound unescaped (before at_v folder)) (bound unescaped (before dot_mod file))

-- THE LAYOUT: a file of a folder is the manifest of a module version exactly if that is well formed and these are its names
abbrev pub LayoutRight : Type 0
LayoutRight =
    (folder file : Bytes) (x : ModuleVersion)
    → (laid_out folder file ≡ Some x) ↔ ((is_module_version x ≡ true) × (folder ≡ escaped x.path ++ at_v) × (file ≡ escaped x.version ++ dot_mod))
