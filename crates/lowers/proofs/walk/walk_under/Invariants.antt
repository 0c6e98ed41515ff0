-- The walk from this place on is the whole walk, every row but the main row is well formed, and what is before this place is known. Assumes nothing.
use Rattle.std.proofs.Common.{◌≡◌, ◌-◌, ◌≤◌, length}
use Rattle.rules.specs.Walks.{walk}
use Rattle.rules.specs.Lowers.{lower_ask}
use Rattle.names.specs.Paths.{path_bytes}
use Rattle.walks.specs.Sheets.{sheet_of}
use Rattle.walks.specs.Views.{seen_by, Formed}
use Rattle.lowers.specs.Ceilings.{ceiling_rows}
use Rattle.lowers.specs.Learned.{Knows}
use Rattle.lowers.proofs.walk.walk_under.Given as goal

abbrev pub invariant-loop-at : goal.invariant-loop-at
invariant-loop-at g l =
    (1 ≤ l.at) × (l.at ≤ length (sheet_of l.sheet))
    × Formed (sheet_of l.sheet)
    × (l.sheet.items.ghost_name ≡ l.initial.sheet.items.ghost_name)
    × (g.S.Source.meaning l.source ≡ g.S.Source.meaning l.initial.source)
    × (g.S.Source.inside l.source ≡ g.S.Source.inside l.initial.source)
    × Knows (seen_by (path_bytes l.main) (g.S.Source.meaning l.initial.source)) (ceiling_rows l.ceilings) (sheet_of l.sheet) l.learned l.at
    × (walk (lower_ask (seen_by (path_bytes l.main) (g.S.Source.meaning l.initial.source)) (ceiling_rows l.ceilings)) (256 - l.at) l.at (sheet_of l.sheet)
    ≡ walk (lower_ask (seen_by (path_bytes l.main) (g.S.Source.meaning l.initial.source)) (ceiling_rows l.ceilings)) 255 1 (sheet_of l.initial.sheet))

abbrev pub decreases-loop-at : goal.decreases-loop-at
decreases-loop-at g l = 256 - l.at
