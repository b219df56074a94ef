-- `words::word_bits` meets its contract. The loop's invariant: the bits before i are written, and those of `rest` are to come. Assumes nothing.
use lib.ListN.{length}
use Rattle.words.proofs.Spelling.{BitsTo}
use Rattle.words.proofs.word_bits.Given as goal

abbrev pub invariant-loop-bit : goal.invariant-loop-bit
invariant-loop-bit l = BitsTo l.w (length l.initial.bits) l.bits l.rest l.bit-index
