-- `lane_complete::settle_gates` meets its contract. The loop's invariant: the gates before place i of the order have their levels. Assumes nothing.
use mathlib.Core.Path.{◌≡◌}
use lib.ListN.{length}
use Rattle.lane_complete.specs.Rows.{SettledRows}
use Rattle.lane_complete.proofs.Turns.{SettlesTo}
use Rattle.lane_complete.proofs.settle_gates.Given as goal

abbrev pub invariant-loop-i : goal.invariant-loop-i
invariant-loop-i l = (length l.row ≡ length l.initial.row) × SettlesTo (SettledRows l.counts l.code) l.counts l.code l.initial.row l.row l.i
