-- What a buffer means, by its kind, and what opening it answers. Assumes nothing.
use Rattle.rules.specs.Orders.{Bytes}
use Rattle.rules.specs.Sources.{Meaning, Lawful}
use Rattle.fields.specs.Openings.{Opening}
use Rattle.shelf.specs.Grammar as S
use Rattle.shelf.specs.Records.{shelf_meaning}
use Rattle.shelf.specs.Laws.{shelf_lawful}
use Rattle.tree.specs.Grammar as T
use Rattle.tree.specs.Files.{tree_meaning}
use Rattle.tree.specs.Laws.{tree_lawful}
use Rattle.buffers.specs.declared.buffer.Kind.{Kind}
use Rattle.buffers.specs.declared.buffer.Kind.TheVariants.{Shelf, Tree}
use Rattle.buffers.specs.declared.buffer.Buffer.{Buffer}
use Rattle.buffers.specs.declared.buffer.Buffer.TheVariants as B

-- what bytes mean as a kind of buffer
abbrev pub meaning_as : Kind → Bytes → Meaning
meaning_as Shelf bs = shelf_meaning bs
meaning_as Tree bs = tree_meaning bs

-- what opening bytes as a kind of buffer answers
abbrev pub opening_as : Kind → Bytes → Opening
opening_as Shelf bs = S.opening bs
opening_as Tree bs = T.opening bs

abbrev pub buffer_meaning : Buffer → Meaning
buffer_meaning (B.Shelf s) = shelf_meaning s.bytes.now
buffer_meaning (B.Tree t) = tree_meaning t.bytes.now

pub buffer_lawful : (b : Buffer) → Lawful (buffer_meaning b)
buffer_lawful (B.Shelf s) = shelf_lawful s.bytes.now s.ok
buffer_lawful (B.Tree t) = tree_lawful t.bytes.now
