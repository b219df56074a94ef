-- `call_keys::next_by_key` meets its contract. The loop's invariant: of the nets that were looked at, the best is known. Assumes nothing.
use Prim.Native.Nat.{◌≤◌}
use Rattle.circuit.specs.Stage.{net_count}
use Rattle.circuit_steps.specs.Moves.{moves, loaded_net, row_in}
use Rattle.run_spec.specs.Keys.{key_in}
use Rattle.call_keys.specs.Lists.{BestOf}
use Rattle.call_keys.proofs.next_by_key.Given as goal

abbrev pub invariant-loop-net : goal.invariant-loop-net
invariant-loop-net l =
    BestOf (moves (loaded_net l.counts l.code) (row_in l.counts l.goal) (row_in l.counts l.row)) (key_in l.keys) (net_count l.counts) l.net l.best × (l.net ≤ net_count l.counts)
