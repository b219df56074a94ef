-- `call_play::has_ended` meets its contract. The loop's invariant: none of the nets that were looked at may switch. Assumes nothing.
use Prim.Native.Nat.{ℕ, ◌≤◌, ◌<◌}
use mathlib.Core.Path.{◌≡◌}
use mathlib.Core.Bool.{false}
use Rattle.circuit.specs.Stage.{net_count}
use Rattle.circuit_steps.specs.Moves.{moves, loaded_net, row_in}
use Rattle.call_play.proofs.has_ended.Given as goal

abbrev pub invariant-loop-net : goal.invariant-loop-net
invariant-loop-net l =
    (l.net ≤ net_count l.counts) × ((k : ℕ) → k < l.net → moves (loaded_net l.counts l.code) (row_in l.counts l.goal) (row_in l.counts l.row) k ≡ false)
