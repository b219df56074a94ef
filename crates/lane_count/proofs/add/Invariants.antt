-- `lane_count::add` meets its contract. The loop's invariant: the digits before place i have the level added, and the carry is still to be added. Assumes nothing.
use Rattle.lane_count.proofs.Adding.{AddedTo}
use Rattle.lane_count.proofs.add.Given as goal

abbrev pub invariant-loop-i : goal.invariant-loop-i
invariant-loop-i l = AddedTo l.initial.digits l.from l.level l.digits l.carry l.i
