-- The words, verbs and directives of the code, told as those of the rules. Assumes nothing.
use Rattle.std.specs.Prelude.{ℕ, List, [], ◌∷◌, Some, None, Option}
use Rattle.rules.specs.Lines as R
use Rattle.rules.specs.Manifests as M
use Rattle.lexer.specs.declared.words.Word.{Word}
use Rattle.lexer.specs.declared.words.Word.TheVariants.{Text, Open, Close}
use Rattle.lexer.specs.declared.verbs.Verb.{Verb}
use Rattle.lexer.specs.declared.verbs.Verb.TheVariants as V
use Rattle.lexer.specs.declared.shapes.Directive.{Directive}
use Rattle.lexer.specs.declared.shapes.Directive.TheVariants as D

abbrev pub word_of : Word → R.Word
word_of (Text t n) = R.text t.now
word_of (Open n) = R.opening
word_of (Close n) = R.closing

abbrev pub line_of : Word → ℕ
line_of (Text t n) = n
line_of (Open n) = n
line_of (Close n) = n

-- a word is the number of its line and what it says
abbrev pub word_told : Word → ℕ × R.Word
word_told w = (line_of w, word_of w)

-- the first of the words that are left of line n
abbrev pub next_word : ℕ → List R.Word → Option (ℕ × R.Word)
next_word n [] = None
next_word n (w ∷ ws) = Some (n, w)

abbrev pub verb_told : Verb → M.Verb
verb_told V.Module = M.module_verb
verb_told V.Go = M.go_verb
verb_told V.Require = M.require_verb
verb_told V.Exclude = M.exclude_verb
verb_told V.Other = M.other_verb

abbrev pub directive_told : Directive → M.Directive
directive_told D.Passed = M.passed
directive_told (D.Names p) = M.names p.now
directive_told (D.Go w) = M.go_version w.now
directive_told (D.Require p v) = M.requires_row p.now v.now
directive_told (D.Exclude p v) = M.excludes_row p.now v.now
directive_told (D.Opens v) = M.opens (verb_told v)
directive_told D.Closes = M.closes
