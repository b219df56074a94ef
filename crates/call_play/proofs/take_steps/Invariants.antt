-- `call_play::take_steps` meets its contract. The loop's invariant: so many steps were taken. Assumes nothing.
use mathlib.Core.Path.{◌≡◌}
use lib.ListN.{length}
use Rattle.circuit.specs.Rows.{RowFor}
use Rattle.circuit_steps.specs.Moves.{moves, loaded_net, row_in}
use Rattle.call_play.proofs.Steps.{StepsTo}
use Rattle.call_play.proofs.take_steps.Given as goal

abbrev pub invariant-loop-i : goal.invariant-loop-i
invariant-loop-i l =
    StepsTo (moves (loaded_net l.counts l.code) (row_in l.counts l.goal)) (row_in l.counts l.initial.row) l.list l.i (row_in l.counts l.row) × RowFor l.counts l.row × (length l.row ≡ length l.initial.row)
