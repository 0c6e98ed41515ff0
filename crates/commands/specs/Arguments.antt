-- The sources that a command line names. Assumes nothing.
use Rattle.std.specs.Prelude.{Some, None, codes, Option}
use Rattle.std.specs.Option.{option_map}
use Rattle.rules.specs.Orders.{Bytes}
use Rattle.tree.specs.Filenames.{behind}
use Rattle.commands.specs.declared.arguments.Form.{Form}
use Rattle.commands.specs.declared.arguments.Form.TheVariants.{Tree, Shelf, Dir}
use Rattle.commands.specs.declared.arguments.Argument.{Argument}

-- what is named: a tree, a shelf or a folder, and the name of its file
pub record Named : Type 0 where
  pub form : Form
  pub place : Bytes

abbrev pub named_of : Argument → Named
named_of a = record { form = a.form; place = a.place.now }

-- a word that begins with the text, as a source of the form
abbrev pub named_as : Form → Bytes → Bytes → Option Named
named_as f text word = option_map (λ p. record { form = f; place = p }) (behind text word)

abbrev pub or_else : {A : Type 0} → Option A → Option A → Option A
or_else None o = o
or_else (Some a) o = Some a

abbrev pub source_named : Bytes → Option Named
source_named word = or_else (named_as Tree (codes "tree:") word) (or_else (named_as Shelf (codes "shelf:") word) (named_as Dir (codes "dir:") word))
