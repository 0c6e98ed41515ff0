-- A line more is read. Assumes nothing.
use Rattle.std.proofs.Common.{Some, ◌+◌, take, rules, sym, ap, ◌∙◌}
use Rattle.rules.specs.Orders.{Bytes}
use Rattle.lexer.specs.Cuts.{first_line}
use Rattle.lexer.specs.Lefts.{next_line, but_first}
use Rattle.lexer.proofs.Pieced.{lines_next}
use Rattle.lexer.proofs.lines.Lines.next_line.Goals as goal

pub returns : goal.returns
returns c =
    let self = c.args.self.now in
    let rest = c.in_ok-rest.rest.now in
    let got = (c.in_ok-rest.ensures.lookup).0 in
    let line = take c.line_length.result rest in
    let on = lines_next self.text.now self.at line got.0 (ap (λ n. take n rest) c.line_length.ensures.value.0 ∙ ap first_line got.2) in
    record {
      value = ap (λ (l : Bytes). Some (self.line + 1, l)) c.code_of.ensures.value ∙ sym (ap (next_line self.line) on);
      items = sym (ap but_first on);
      after = search rules;
    }
