-- `words::spell_word` meets its contract. The loop's invariant: the rails before those of input i are written, and those of `rest` are to
-- come. Assumes nothing.
use native.Mathlib.Omega.{arith}
use Rattle.words.proofs.Spelling.{spelt_turn, spelt_done}
use Rattle.words.proofs.spell_word.Goals as goal

pub loop-i-preserved : goal.loop-i-preserved
loop-i-preserved c = spelt_turn _ _ _ _ _ _ c.loop-i.invariant (omega arith)

pub returns : goal.returns
returns c = record { rails = spelt_done _ _ _ _ _ _ c.loop-i.invariant (omega arith); row = c.loop-i.invariant.row_for_holds }
