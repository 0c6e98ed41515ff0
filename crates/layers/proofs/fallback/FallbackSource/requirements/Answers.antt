-- A short slice; the rest is found without an answer. Assumes nothing.
use Rattle.std.proofs.Common.{length, sym, refl, leb-false}
use Rattle.rules.specs.Sources.{fault}
use Rattle.rules.specs.Questions.{too_short}
use Rattle.rules.specs.Slices.{blank}
use Rattle.modules.specs.Rows.{row_names}
use Rattle.source.proofs.Telling.{tells_short}
use Rattle.layers.proofs.fallback.FallbackSource.requirements.Goals as goal

pub returns-in_err-check_room-clause-items : goal.returns-in_err-check_room-clause-items
returns-in_err-check_room-clause-items g c =
    let n = length c.args.rows.now in
    (tells_short row_names blank n _ c.blank.result (fault too_short) _ (leb-false 64 n (sym c.in_err-check_room.ensures.long)) c.blank.ensures refl c.in_err-check_room.ensures.items).1
