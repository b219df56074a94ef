-- `lane_rise::never_risen` meets its contract. The loop's invariant: the gates before gate g are noted. Assumes nothing.
use Prim.Native.Nat.{ℕ, ◌<◌}
use Rattle.lane_rise.proofs.Never.{NotedAt}
use Rattle.lane_rise.proofs.never_risen.Given as goal

abbrev pub invariant-loop-g : goal.invariant-loop-g
invariant-loop-g l = (i : ℕ) → i < l.g → NotedAt l.rose i
