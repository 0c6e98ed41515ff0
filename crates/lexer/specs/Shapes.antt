-- What a line asks for, by its first four words and whether a bracket is among its words: all that the rules look at, as proofs/Shaped.antt shows.
-- Assumes nothing.
use Rattle.std.specs.Prelude.{Bool, true, false, Some, None, Option}
use Rattle.rules.specs.Orders.{Bytes}
use Rattle.rules.specs.Lines.{Word, text, opening, closing}
use Rattle.rules.specs.Manifests.{Verb, module_verb, go_verb, require_verb, exclude_verb, other_verb, Directive, passed, names, go_version, requires_row, excludes_row, closes, verb_of, opens_block}

-- one word and no more
abbrev pub one_word : (Bytes → Directive) → Option Word → Option Word → Option Directive
one_word make None b = None
one_word make (Some (text w)) None = Some (make w)
one_word make (Some (text w)) (Some x) = None
one_word make (Some opening) b = None
one_word make (Some closing) b = None

-- two words and no more
abbrev pub two_words : (Bytes → Bytes → Directive) → Option Word → Option Word → Option Word → Option Directive
two_words make None b c = None
two_words make (Some (text m)) None c = None
two_words make (Some (text m)) (Some (text v)) None = Some (make m v)
two_words make (Some (text m)) (Some (text v)) (Some x) = None
two_words make (Some (text m)) (Some opening) c = None
two_words make (Some (text m)) (Some closing) c = None
two_words make (Some opening) b c = None
two_words make (Some closing) b c = None

-- the words behind a verb, or of a line in its block
abbrev pub behind_words : Verb → Option Word → Option Word → Option Word → Option Directive
behind_words module_verb a b c = one_word names a b
behind_words go_verb a b c = one_word go_version a b
behind_words require_verb a b c = two_words requires_row a b c
behind_words exclude_verb a b c = two_words excludes_row a b c
behind_words other_verb a b c = Some passed

-- a line outside blocks, none of its words a bracket
abbrev pub verb_words : Option Word → Option Word → Option Word → Option Word → Option Directive
verb_words None b c d = Some passed
verb_words (Some (text v)) b c d = behind_words (verb_of v) b c d
verb_words (Some opening) b c d = None
verb_words (Some closing) b c d = None

-- a line in the block of a verb, none of its words a bracket
abbrev pub block_words : Verb → Option Word → Option Word → Option Word → Option Directive
block_words verb None b c = Some passed
block_words verb (Some w) b c = behind_words verb (Some w) b c

-- a line that opens a block: a verb, and an opening bracket alone
abbrev pub opening_words : Option Word → Option Word → Option Word → Option Directive
opening_words None b c = None
opening_words (Some (text v)) None c = None
opening_words (Some (text v)) (Some (text w)) c = None
opening_words (Some (text v)) (Some opening) None = opens_block (verb_of v)
opening_words (Some (text v)) (Some opening) (Some w) = None
opening_words (Some (text v)) (Some closing) c = None
opening_words (Some opening) b c = None
opening_words (Some closing) b c = None

-- a line that closes a block: a closing bracket alone
abbrev pub closing_words : Option Word → Option Word → Option Directive
closing_words None b = None
closing_words (Some (text w)) b = None
closing_words (Some opening) b = None
closing_words (Some closing) None = Some closes
closing_words (Some closing) (Some w) = None

abbrev pub outside_words : Bool → Option Word → Option Word → Option Word → Option Word → Option Directive
outside_words true a b c d = opening_words a b c
outside_words false a b c d = verb_words a b c d

abbrev pub inside_words : Verb → Bool → Option Word → Option Word → Option Word → Option Directive
inside_words verb true a b c = closing_words a b
inside_words verb false a b c = block_words verb a b c

abbrev pub shape_words : Option Verb → Bool → Option Word → Option Word → Option Word → Option Word → Option Directive
shape_words None bracket a b c d = outside_words bracket a b c d
shape_words (Some verb) bracket a b c d = inside_words verb bracket a b c
