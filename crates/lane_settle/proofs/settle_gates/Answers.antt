-- `lane_settle::settle_gates` meets its contract. The loop's invariant: the gates before place i of the order have their levels in all words, and what
-- they mark is marked. Assumes nothing.
use native.Mathlib.Omega.{arith}
use mathlib.Core.Path.{◌≡◌, subst}
use Rattle.lane_settle.specs.Block.{rest_in, LanesSettledTo}
use Rattle.lane_settle.proofs.Turns.{block_turn}
use Rattle.lane_settle.proofs.settle_gates.Goals as goal

pub loop-i-preserved : goal.loop-i-preserved
loop-i-preserved c =
    let l = c.loop-i in
    let m = c.mark_pins in block_turn c.args.counts c.args.code.now c.args.row.now c.args.ack.now c.requires.0 c.requires.1 c.requires.2 l.row l.ack l.i
    l.invariant (omega arith) _ c.gate_at-k.ensures _ c.gate_lanes-cell.ensures _ m.ensures.0 m.ensures.1

pub returns-clause-settled : goal.returns-clause-settled
returns-clause-settled c =
    let l = c.loop-i in
    let e : l.i ≡ c.args.counts.gates = omega arith in
    λ b s. subst (LanesSettledTo c.args.counts c.args.code.now (rest_in c.args.counts c.args.code.now b) l.row) e (l.invariant.settled b s)
