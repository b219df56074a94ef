-- `lane_cells::spell_inputs` meets its contract. The loop's invariant: the inputs below i have their bits in all words of the block.
-- Assumes nothing.
use native.Mathlib.Omega.{arith}
use Rattle.lane_cells.proofs.Blocks.{spelled_bits}
use Rattle.lane_cells.proofs.spell_inputs.Goals as goal

pub returns : goal.returns
returns c =
    let l = c.loop-i in
    (l.auto.values, spelled_bits c.args.b c.args.inputs l.values (omega arith) (λ j k d h. l.invariant j k d (omega arith)))
