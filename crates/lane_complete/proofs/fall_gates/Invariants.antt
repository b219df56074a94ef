-- `lane_complete::fall_gates` meets its contract. The loop's invariant: the gates before place i of the order have their levels. Assumes nothing.
use Prim.Native.Nat.{ℕ}
use mathlib.Core.Path.{◌≡◌}
use lib.ListN.{length}
use Rattle.lane_settle.specs.Block.{AtRest}
use Rattle.lane_complete.specs.Rows.{FallenRows}
use Rattle.lane_complete.proofs.Turns.{SettlesTo}
use Rattle.lane_complete.proofs.fall_gates.Given as goal

abbrev pub invariant-loop-i : goal.invariant-loop-i
invariant-loop-i l =
    (length l.row ≡ length l.initial.row) × ((b n : ℕ) → AtRest l.counts l.code b l.rest → SettlesTo (FallenRows l.counts l.code b n) l.counts l.code l.initial.row l.row l.i)
