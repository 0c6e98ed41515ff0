-- What is called in each place gives the blank. Assumes nothing.
use Rattle.std.proofs.Common.{of_calls}
use Rattle.source.proofs.Blanks.{blanked}
use Rattle.source.proofs.slices.blank_from.Goals as goal

pub returns : goal.returns
returns g c = record { items = blanked c.args.blank _ _ c.args.items.now c.fill_with.new.self c.args.start c.min-start.result c.min-start.ensures c.fill_with.ensures.len (λ x q r. search of_calls) _ c.fill_with.ensures.ran.1 }
