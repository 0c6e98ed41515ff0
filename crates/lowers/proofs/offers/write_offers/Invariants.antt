-- The offers of the ceilings that are left, behind what is written, are all the offers. Assumes nothing.
use Rattle.std.proofs.Common.{◌≡◌, map, drop}
use Rattle.rules.specs.Walks.{ended, done}
use Rattle.rules.specs.Lowers.{offers_written}
use Rattle.modules.specs.Rows.{row_names}
use Rattle.walks.specs.Sheets.{sheet_of}
use Rattle.lowers.specs.Ceilings.{ceiling_rows}
use Rattle.lowers.proofs.offers.write_offers.Given as goal

abbrev pub invariant-loop-ceiling : goal.invariant-loop-ceiling
invariant-loop-ceiling g l =
    (l.sheet.items.ghost_name ≡ l.initial.sheet.items.ghost_name)
    × (g.S.Source.meaning l.source ≡ g.S.Source.meaning l.initial.source)
    × (g.S.Source.inside l.source ≡ g.S.Source.inside l.initial.source)
    × (offers_written (g.S.Source.meaning l.initial.source) (ended done) (map row_names (drop l.ceiling-index l.ceiling-items)) (sheet_of l.sheet)
    ≡ offers_written (g.S.Source.meaning l.initial.source) (ended done) (ceiling_rows l.ceilings) (sheet_of l.initial.sheet))
