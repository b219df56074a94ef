-- `circuit::settle_from` meets its contract. The loop's invariant: the rails stay, and the gates before place i of the order have
-- their levels. Assumes nothing.
use native.Mathlib.Omega.{arith}
use Rattle.verdict.proofs.Settling.{holding_local}
use Rattle.circuit.specs.Stage.{stage_gates}
use Rattle.circuit.proofs.Settling.{settling_turn, holding_done}
use Rattle.circuit.proofs.settle_from.Goals as goal

pub loop-i-preserved : goal.loop-i-preserved
loop-i-preserved c =
    let l = c.loop-i in
    settling_turn c.args.counts c.args.code.now c.requires.1 _ (holding_local c.args.held (stage_gates c.args.counts c.args.code.now))
    c.args.row.now l.row l.i l.invariant (omega arith) _ c.gate_at-k.ensures _ c.level_holding.ensures.0 c.level_holding.ensures.1

pub returns : goal.returns
returns c =
    let l = c.loop-i in
    record { settled = holding_done c.args.counts c.args.code.now c.requires.1 c.args.held c.args.row.now l.row l.i l.invariant (omega arith); row = l.invariant.row_for_holds }
