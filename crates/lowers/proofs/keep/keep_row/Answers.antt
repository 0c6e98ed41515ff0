-- The path had no row, or it had one. Assumes nothing.
use Rattle.modules.specs.Rows.{row_names}
use Rattle.modules.specs.Tables.{requirement_names}
use Rattle.std.proofs.Common.{ap}
use Rattle.lowers.proofs.Keeping.{first_added}
use Rattle.lowers.proofs.keep.keep_row.Goals as goal

pub returns : goal.returns
returns c = record {
  after = first_added (row_names c.args.row) (requirement_names c.args.rows.now) (requirement_names c.add.new.self) c.add.result c.requires c.add.ensures.value c.add.ensures.after
      (λ e. ap requirement_names (c.add.ensures.refused e));
}
