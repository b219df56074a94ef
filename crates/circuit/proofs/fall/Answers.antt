-- `circuit::fall` meets its contract. The loop's invariant: the rails stay, the gates before place i of the order have their levels, and the
-- others the rest's. Assumes nothing.
use native.Mathlib.Omega.{arith}
use Rattle.circuit.proofs.Settling.{falling_done}
use Rattle.circuit.proofs.Falling.{falling_turn}
use Rattle.circuit.proofs.fall.Goals as goal

pub loop-i-preserved : goal.loop-i-preserved
loop-i-preserved c =
    let l = c.loop-i in
    falling_turn c.args.counts c.args.code.now c.requires.1 c.args.kept c.args.row.now l.row l.i l.invariant
    (omega arith) _ c.gate_at-k.ensures _ c.level_falling.ensures.0 c.level_falling.ensures.1

pub returns : goal.returns
returns c =
    let l = c.loop-i in
    record { settled = falling_done c.args.counts c.args.code.now c.requires.1 c.args.kept c.args.row.now l.row l.i l.invariant.settling (omega arith); row = l.invariant.settling.row_for_holds }
