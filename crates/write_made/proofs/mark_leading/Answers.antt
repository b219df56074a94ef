-- `write_made::mark_leading` meets its contract. The loop's invariant: the gates from gate k on have marked their operands. Assumes nothing.
use native.Mathlib.Omega.{arith}
use Prim.Native.Nat.{◌+◌, ◌-◌}
use lib.ListN.{get_or}
use borrow.Author.Tests.{lt-ltb, le-ltb}
use Rattle.write_made.proofs.Marking.{leading_start, leading_marked, leading_unmarked}
use Rattle.write_made.proofs.mark_leading.Goals as goal

pub loop-k-init : goal.loop-k-init
loop-k-init c = leading_start _ _ _

pub loop-k-preserved-then-marks-inputs-gt0 : goal.loop-k-preserved-then-marks-inputs-gt0
loop-k-preserved-then-marks-inputs-gt0 c =
    leading_marked _ _ _ (omega arith) c.loop-k.invariant (lt-ltb _ _ c.if-marks-inputs-gt0.true)
    c.mark_operands.ensures

pub loop-k-preserved : goal.loop-k-preserved
loop-k-preserved c =
    let l = c.loop-k in
    leading_unmarked _ _ _ (omega arith) l.invariant (le-ltb 0 (get_or l.marks (c.args.sizes.inputs + (l.k - 1)) 0) (omega arith))
