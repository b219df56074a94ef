-- `words::word_bits` meets its contract. The loop's invariant: the bits before i are written, and those of `rest` are to come. Assumes nothing.
use native.Mathlib.Omega.{arith}
use Rattle.words.proofs.Spelling.{bits_turn, bits_done}
use Rattle.words.proofs.word_bits.Goals as goal

pub loop-bit-preserved : goal.loop-bit-preserved
loop-bit-preserved c = bits_turn _ _ _ _ _ c.loop-bit.invariant (omega arith)

pub returns : goal.returns
returns c = bits_done _ _ _ _ _ c.loop-bit.invariant (omega (arith, c.loop-bit.invariant.same_long))
