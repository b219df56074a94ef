-- `lane_cells::signal_lanes` meets its contract. The loop's invariant: in each lane the values of the first k gates are written. Assumes nothing.
use Rattle.lane_cells.proofs.Signals.{SignalsTo}
use Rattle.lane_cells.proofs.signal_lanes.Given as goal

abbrev pub invariant-loop-k : goal.invariant-loop-k
invariant-loop-k l = SignalsTo l.sizes l.reference l.initial.values l.values l.k
