-- The proof of the cycle of calls {open_net}. The measure is the place of the net's C-element in the order, 0 for a net of another sort. The loop's invariant:
-- what stands behind the pins from j on was gathered, and the table is right. Assumes nothing.
use Prim.Native.Nat.{◌+◌, ◌*◌, ◌-◌}
use mathlib.Core.Path.{◌≡◌}
use lib.ListN.{length, drop}
use Rattle.circuit_place.specs.Placing.{place, four}
use Rattle.check_open.specs.Opening.{ToldOf, Table}
use Rattle.check_open.proofs.+open_net.Given as goal

abbrev pub decreases-open_net : goal.decreases-open_net
decreases-open_net l = place l.nets.now l.first l.net

abbrev pub invariant-loop-j : goal.invariant-loop-j
invariant-loop-j l =
    (length l.met ≡ length l.initial.met) × Table l.nets l.first l.met × ToldOf l.nets l.first (drop l.j (four l.nets (8 * (l.net - l.first) + 1))) l.all
