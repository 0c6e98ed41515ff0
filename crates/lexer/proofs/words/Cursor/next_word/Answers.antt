-- A word more is read: behind the gaps stand a bracket, a text or nothing. Assumes nothing.
use Rattle.std.proofs.Common.{◌≡◌, [], sym, refl, ap, ◌∙◌, rules}
use Rattle.rules.specs.Lines.{words}
use Rattle.lexer.specs.Lefts.{but_first}
use Rattle.lexer.specs.Told.{next_word}
use Rattle.lexer.proofs.Spelled.{no_word, at_opening, at_closing, at_text}
use Rattle.lexer.proofs.words.Cursor.next_word.Goals as goal

pub returns-in-empty : goal.returns-in-empty
returns-in-empty c =
    let self = c.args.self.now in
    let none : words self.rest.now ≡ [] = no_word self.rest.now _ _ refl c.gap_length-gaps.ensures.value.0 (search rules) in
    record { value = sym (ap (next_word self.line) none); items = none ∙ sym (ap but_first none); same = refl }

pub returns-in-40 : goal.returns-in-40
returns-in-40 c =
    let self = c.args.self.now in
    let on = at_opening self.rest.now _ _ refl c.gap_length-gaps.ensures.value.0 (search rules) (search rules) in
    record { value = sym (ap (next_word self.line) on); items = sym (ap but_first on); same = refl }

pub returns-in-41 : goal.returns-in-41
returns-in-41 c =
    let self = c.args.self.now in
    let on = at_closing self.rest.now _ _ refl c.gap_length-gaps.ensures.value.0 (search rules) (search rules) in
    record { value = sym (ap (next_word self.line) on); items = sym (ap but_first on); same = refl }

pub returns-in_default : goal.returns-in_default
returns-in_default c =
    let self = c.args.self.now in
    let on = at_text self.rest.now _ _ refl c.gap_length-gaps.ensures.value.0 c.word_length.result (search rules) (search rules) (search rules) c.word_length.ensures.value.0 in
    rw (c.split_at.ensures.front, c.split_at.ensures.back) (record { value = sym (ap (next_word self.line) on); items = sym (ap but_first on); same = refl })
