-- `lane_count::counters` meets its contract. The loop's invariant: the digits from place i on are read. Assumes nothing.
use mathlib.Core.Path.{◌≡◌}
use lib.ListN.{drop}
use Rattle.lane_count.specs.Counters.{counted_beside}
use Rattle.lane_count.proofs.counters.Given as goal

abbrev pub invariant-loop-i : goal.invariant-loop-i
invariant-loop-i l = l.high ≡ counted_beside l.j (drop l.i l.digits)
