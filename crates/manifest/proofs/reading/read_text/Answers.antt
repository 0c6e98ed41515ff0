-- All lines are read. Assumes nothing.
use Rattle.std.proofs.Common.{◌≡◌, length, ap, ◌∙◌, ap₂, arith, rules}
use Rattle.std.specs.Option.{option_map}
use Rattle.rules.specs.Lines.{lines}
use Rattle.rules.specs.Manifests.{Reading, unbegun, lines_read, at_end}
use Rattle.names.specs.Paths.{path_bytes}
use Rattle.lexer.specs.Told.{verb_told}
use Rattle.manifest.specs.Outcomes.{outcome, reading_told, finish_of}
use Rattle.manifest.specs.Views.{view}
use Rattle.manifest.proofs.Ended.{none_read, end_counted, end_left}
use Rattle.manifest.proofs.reading.read_text.Goals as goal

pub returns : goal.returns
returns c =
    let most = c.args.most in
    let ls = lines c.args.text.now in
    let required = c.new-required in
    let excluded = c.new-excluded in
    let p = c.read_lines.new.self in
    let rs = c.read_lines.new.required in
    let es = c.read_lines.new.excluded in
    let all : Reading = lines_read most 0 unbegun ls in
    let none = none_read required.result excluded.result required.ensures.value.0 excluded.ensures.value.0 in
    let most_so : required.result.most ≡ most = omega (arith, required.ensures.value.1) in
    let same : reading_told (at_end (view p rs es)) ≡ reading_told all =
    c.in_ok-read_lines.ensures.value ∙ ap₂ (λ n q. reading_told (lines_read n 0 q ls)) most_so none
    in
    let told : outcome c.finish.result ≡ finish_of (option_map verb_told p.block) (option_map path_bytes p.main) rs.count es.count =
    c.finish.ensures.value ∙ ap₂ (finish_of (option_map verb_told p.block) (option_map path_bytes p.main)) c.count.ensures.value c.count-2.ensures.value
    in
    record {
      value = end_counted p rs es c.finish.result all same told;
      items = end_left p rs es c.finish.result all same told _ _ _ _ (search rules) (search rules)
          (c.read_lines.ensures.room.0 ∙ ap length required.ensures.same) (c.read_lines.ensures.room.1 ∙ ap length excluded.ensures.same);
    }
