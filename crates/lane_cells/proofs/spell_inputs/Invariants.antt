-- `lane_cells::spell_inputs` meets its contract. The loop's invariant: the inputs below i have their bits in all words of the block.
-- Assumes nothing.
use Rattle.lane_cells.proofs.Blocks.{SpelledTo}
use Rattle.lane_cells.proofs.spell_inputs.Given as goal

abbrev pub invariant-loop-i : goal.invariant-loop-i
invariant-loop-i l = SpelledTo l.b l.values l.i
