-- `lane_count::add` meets its contract. The loop's invariant: the digits before place i have the level added, and the carry is still to be added. Assumes nothing.
use native.Mathlib.Omega.{arith}
use Rattle.lane_count.proofs.Adding.{added_more, added_done}
use Rattle.lane_count.proofs.add.Goals as goal

pub loop-i-preserved : goal.loop-i-preserved
loop-i-preserved c = let l = c.loop-i in added_more _ _ _ l.digits l.carry l.i l.invariant (omega arith)

pub returns : goal.returns
returns c = let l = c.loop-i in (l.invariant.same_long, added_done _ _ _ l.digits l.carry l.i l.invariant (omega arith) c.requires)
