-- `lane_count::count_high` meets its contract. The loops' invariant: the counters say how many of the nets passed are high. Assumes nothing.
use Prim.Native.Nat.{◌*◌}
use Rattle.lane_count.proofs.Levels.{CountedTo}
use Rattle.lane_count.proofs.count_high.Given as goal

abbrev pub invariant-loop-i : goal.invariant-loop-i
invariant-loop-i l = CountedTo l.row l.from l.digits (8 * l.i)

abbrev pub invariant-loop-i-2 : goal.invariant-loop-i-2
invariant-loop-i-2 l = CountedTo l.row l.from l.digits l.i
