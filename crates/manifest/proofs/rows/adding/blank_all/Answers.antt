-- A copy of a row is that row. Assumes nothing.
use Rattle.std.proofs.Common.{length, replicate, ap, ◌∙◌}
use Rattle.manifest.specs.Holds.{names_in}
use Rattle.manifest.proofs.Held.{names_replicate}
use Rattle.manifest.proofs.rows.adding.blank_all.Goals as goal

pub returns : goal.returns
returns c =
    let n = length c.args.rows.now in
    record { items = ap names_in (c.fill.ensures.after (λ y e. e)) ∙ names_replicate n c.blank.result ∙ ap (replicate n) c.blank.ensures }
