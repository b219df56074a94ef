-- `lane_cells::signal_lanes` meets its contract. The loop's invariant: in each lane the values of the first k gates are written. Assumes nothing.
use native.Mathlib.Omega.{arith}
use Rattle.lane_cells.proofs.Signals.{signals_start, signals_turn, signals_done}
use Rattle.lane_cells.proofs.signal_lanes.Goals as goal

pub loop-k-init : goal.loop-k-init
loop-k-init c = signals_start _ _ _

pub loop-k-preserved : goal.loop-k-preserved
loop-k-preserved c =
    let l = c.loop-k in
    signals_turn _ _ _ _ _ l.invariant (omega (arith, c.requires.1, c.spell_inputs.ensures.0)) (omega arith) _ c.operator_lanes.ensures

pub returns-clause-values : goal.returns-clause-values
returns-clause-values c = let l = c.loop-k in signals_done _ _ _ _ _ l.invariant (omega arith) _ c.spell_inputs.ensures.1
