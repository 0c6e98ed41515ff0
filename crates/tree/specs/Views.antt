-- A letter of the code, told as one of the rules. Assumes nothing.
use Rattle.tree.specs.declared.escapes.Letter.{Letter}
use Rattle.tree.specs.Escapes.{LetterCut}

abbrev pub letter_cut_of : Letter → LetterCut
letter_cut_of l = record { byte = l.byte; after = l.after.now }
