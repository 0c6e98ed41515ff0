-- Each slot is the first of what the ones before it leave. Assumes nothing.
use Rattle.std.proofs.Common.{◌∙◌, rules}
use Rattle.lexer.proofs.Unbracketed.{bracketed}
use Rattle.lexer.proofs.slots.line_words.Goals as goal

pub returns : goal.returns
returns c = record {
  value = record {
    first = search rules;
    second = search rules;
    third = search rules;
    fourth = search rules;
    bracket = c.has_bracket.ensures.value ∙ bracketed c.args.line.code.now;
  };
}
