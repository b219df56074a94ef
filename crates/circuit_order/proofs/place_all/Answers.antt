-- `circuit_order::place_all` meets its contract. The loop's invariant: the gates before k are placed. Assumes nothing.
use native.Mathlib.Omega.{arith}
use Rattle.circuit.proofs.Reordering.{reordered_trans}
use Rattle.circuit_order.proofs.After.{placed_more, placed_stuck, placed_full}
use Rattle.circuit_order.proofs.place_all.Goals as goal

pub returns-then-waiting-counts-gt0 : goal.returns-then-waiting-counts-gt0
returns-then-waiting-counts-gt0 c = let p = c.place_after-placed.ensures in
    (placed_stuck _ _ _ _ _ _ c.loop-k.invariant _ _ _ _ p c.if-waiting-counts-gt0.true (omega arith), reordered_trans _ _ _ _ c.loop-k.invariant.reordered p.reordered)

pub loop-k-preserved : goal.loop-k-preserved
loop-k-preserved c = placed_more _ _ _ _ _ _ c.loop-k.invariant _ _ _ _ c.place_after-placed.ensures c.if-waiting-counts-gt0.false

pub returns : goal.returns
returns c = (placed_full _ _ _ _ _ _ c.loop-k.invariant (omega (arith, c.loop-k-test.false)), c.loop-k.invariant.reordered)
