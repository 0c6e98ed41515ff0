-- The walk is done, or it stopped; behind what is written the sheet is blank. Assumes nothing.
use Rattle.std.proofs.Common.{rules, length}
use Rattle.rules.specs.Slices.{blank_place}
use Rattle.names.specs.Paths.{path_bytes}
use Rattle.walks.specs.Places.{place_of}
use Rattle.walks.specs.Sheets.{sheet_of}
use Rattle.walks.specs.Views.{seen_by}
use Rattle.walks.proofs.Listing.{laid_in}
use Rattle.lowers.specs.Ceilings.{ceiling_rows}
use Rattle.lowers.proofs.Ending.{ended_told}
use Rattle.lowers.proofs.lower.lower_ceilings.Goals as goal

pub returns-clause-value : goal.returns-clause-value
returns-clause-value g c =
    let w = seen_by (path_bytes c.args.main.now) (g.S.Source.meaning c.args.source.now) in
    let l = c.lower_under-lowered in
    let n = length c.args.sheet.now in
    ended_told w (ceiling_rows c.args.ceilings.now) (sheet_of l.new.sheet) l.result l.ensures.value l.ensures.places l.ensures.rows l.ensures.kept n _
    (laid_in place_of blank_place c.blank.result c.blank.ensures.value l.new.sheet _ l.ensures.value.items n c.blank_behind.new.self.items.now _ c.blank_behind.ensures.after (search rules) (search rules))
