-- One letter more is read, or one too many; what is left is no letter; and the end. Assumes nothing.
use Rattle.std.proofs.Common.{true-eqb}
use Rattle.tree.specs.Views.{letter_cut_of}
use Rattle.tree.proofs.Spelled.{one_read, too_long_read}
use Rattle.tree.proofs.escapes.read_text.Goals as goal

pub returns-then-is_full : goal.returns-then-is_full
returns-then-is_full c =
    record {
      value = too_long_read c.args.bytes.now c.loop-letter.text.items c.loop-letter.rest.now c.loop-letter.invariant (letter_cut_of c.in-Some.letter) c.in-Some.ensures.value
          (true-eqb _ 48 c.if-is_full.ensures.value);
    }

pub loop-letter-preserved : goal.loop-letter-preserved
loop-letter-preserved c =
    one_read c.args.bytes.now c.loop-letter.text.items c.loop-letter.rest.now c.loop-letter.invariant (letter_cut_of c.in-Some.letter) c.in-Some.ensures.value
    c.push.new.self.items c.push.ensures.items
