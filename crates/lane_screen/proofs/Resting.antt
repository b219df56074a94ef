-- Where every high net is marked, every net that is high at the rest is acknowledged.
-- Assumes nothing.
use Prim.Native.Nat.{ℕ, ◌+◌, ◌*◌, ◌<◌}
use native.Mathlib.Omega.{arith}
use native.Mathlib.Decide.{dec_lt}
use mathlib.Core.Path.{◌≡◌, ◌∙◌}
use mathlib.Core.Bool.{Bool, false}
use mathlib.Core.List.{List}
use Rattle.runs.proofs.Test.{clash}
use Rattle.netlist.specs.declared.Counts.{Counts}
use Rattle.circuit.specs.Stage.{net_count}
use Rattle.circuit.specs.Order.{InOrder}
use Rattle.lane_cells.specs.Lane.{lane}
use Rattle.lane_settle.specs.Block.{rest_in, net_in, AtRest, AcknowledgedIn, MarkedIn}
use Rattle.lane_settle.proofs.Settling.{rest_past}
use Rattle.lane_screen.specs.Marks.{AllMarked, AcknowledgedBut}

module _ (c : Counts) (code : List ℕ) (ordered : InOrder c code) (b : ℕ) where
  pub acknowledged_but : (falls : Bool) (row ack : List ℕ) (words : ℕ) → AtRest c code b row → MarkedIn falls c code b ack
      → ((j : ℕ) → j < 64 → lane j words ≡ false → AllMarked j c row ack) → AcknowledgedBut falls c code b words
  acknowledged_but falls row ack words rest marked all j d e p u = go (dec_lt p (net_count c))
    where
      go : Dec (p < net_count c) → AcknowledgedIn falls (net_in c code) (rest_in c code b j) p
      go (yes h) = marked j p d h (all j d e p h (rest j p d h ∙ u))
      go (no h) = absurd (clash u (rest_past c code ordered (64 * b + j) p (omega arith)))
