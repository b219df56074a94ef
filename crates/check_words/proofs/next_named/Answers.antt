-- `check_words::next_named` meets its contract. The loop's invariant: the mask names no word of the list from place `from` on and before place k.
-- Assumes nothing.
use Rattle.check_words.proofs.Sweeping.{unnamed_on}
use Rattle.check_words.proofs.next_named.Goals as goal

pub loop-k-preserved : goal.loop-k-preserved
loop-k-preserved c = unnamed_on c.args.mask.now c.args.list.now c.args.from c.loop-k.k c.loop-k.invariant (c.is_named.ensures.0 c.if-is_named.false)
