use Rattle.names.proofs.Words.{cmp_dictionary}
use Rattle.names.proofs.bytes.compare_bytes.Goals as goal

pub returns : goal.returns
returns c = cmp_dictionary c.args.a.now c.args.b.now c.cmp.result c.cmp.ensures
