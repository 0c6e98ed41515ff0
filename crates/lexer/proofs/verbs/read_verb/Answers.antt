-- A text with the bytes of a verb is that verb. Assumes nothing.
use Rattle.std.proofs.Common.{rules}
use Rattle.std.proofs.lemmas.Slice.Eq.{text_from_reads}
use Rattle.lexer.proofs.verbs.read_verb.Goals as goal

pub returns-in-module : goal.returns-in-module
returns-in-module c = search (rules, text_from_reads)

pub returns-in-require : goal.returns-in-require
returns-in-require c = search (rules, text_from_reads)

pub returns-in-exclude : goal.returns-in-exclude
returns-in-exclude c = search (rules, text_from_reads)
