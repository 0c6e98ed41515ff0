-- What is left of the offers gives the rows that are kept. Assumes nothing.
use Rattle.modules.specs.Tables.{requirement_names}
use Rattle.lowers.specs.Learned.{is_marked}
use Rattle.lowers.proofs.Keeping.{Keeping}
use Rattle.lowers.proofs.keep.keep_rows.Given as goal

abbrev pub invariant-loop-i : goal.invariant-loop-i
invariant-loop-i l = Keeping (is_marked l.learned) l.offers l.i (requirement_names l.rows)
