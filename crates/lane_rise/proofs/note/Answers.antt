-- `lane_rise::note` meets its contract. The loop's invariant: the gates before gate k are noted, and the others are as they were. Assumes nothing.
use native.Mathlib.Omega.{arith}
use Rattle.lane_rise.proofs.Noting.{so_far_more}
use Rattle.lane_rise.proofs.note.Goals as goal

pub loop-k-preserved : goal.loop-k-preserved
loop-k-preserved c =
    let l = c.loop-k in
    so_far_more _ _ _ _ l.rose l.k l.invariant (omega (arith, c.requires.1, l.invariant.noted.same_long))
