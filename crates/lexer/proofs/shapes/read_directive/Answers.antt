-- The slots decide. Assumes nothing.
use Rattle.std.proofs.Common.{Some, None, sym, ap, ◌∙◌}
use Rattle.std.specs.Option.{option_map}
use Rattle.rules.specs.Lines.{words}
use Rattle.rules.specs.Manifests.{directive}
use Rattle.lexer.specs.Told.{verb_told, directive_told}
use Rattle.lexer.proofs.Shaped.{slots_told}
use Rattle.lexer.proofs.shapes.read_directive.Goals as goal

pub returns-in-None : goal.returns-in-None
returns-in-None c =
    let line = c.args.line in
    let slots = c.line_words-words in
    record {
      value = slots_told None line.number (words line.code.now) slots.result (option_map directive_told c.outside_block.result) slots.ensures.value c.outside_block.ensures.value
          ∙ sym (ap (λ b. directive (option_map verb_told b) (words line.code.now)) c.in-None.is);
    }

pub returns-in-Some : goal.returns-in-Some
returns-in-Some c =
    let line = c.args.line in
    let slots = c.line_words-words in
    record {
      value = slots_told (Some (verb_told c.in-Some.verb)) line.number (words line.code.now) slots.result (option_map directive_told c.in_block.result) slots.ensures.value c.in_block.ensures.value
          ∙ sym (ap (λ b. directive (option_map verb_told b) (words line.code.now)) c.in-Some.is);
    }
