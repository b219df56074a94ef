-- `call_witness::least_from` meets its contract. The loop's invariant: none from the start up to a net may move. Assumes nothing.
use Prim.Native.Nat.{◌≤◌}
use Rattle.circuit.specs.Stage.{net_count}
use Rattle.circuit_steps.specs.Moves.{loaded_net, row_in}
use Rattle.call_witness.specs.Lists.{moving}
use Rattle.call_witness.proofs.Steps.{NoneTo}
use Rattle.call_witness.proofs.least_from.Given as goal

abbrev pub invariant-loop-net : goal.invariant-loop-net
invariant-loop-net l = (l.net ≤ net_count l.counts) × NoneTo (moving (loaded_net l.counts l.code) (row_in l.counts l.goal) l.held (row_in l.counts l.row)) l.from l.net
