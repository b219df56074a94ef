-- `write_made::unmarked` meets its contract. The loop's invariant: the signals before x are marked. Assumes nothing.
use native.Mathlib.Omega.{arith}
use mathlib.Core.Path.{ap}
use mathlib.Core.Bool.{not}
use borrow.Author.Tests.{lt-ltb, le-ltb}
use lib.ListN.{get_or}
use Rattle.verdict.proofs.Least.{sought_on, sought_here, sought_none}
use Rattle.write_made.proofs.unmarked.Goals as goal

pub loop-x-preserved : goal.loop-x-preserved
loop-x-preserved c = sought_on _ _ _ (omega arith) c.loop-x.invariant (ap not (lt-ltb 0 (get_or c.args.marks.now c.loop-x.x 0) (omega arith)))

pub returns-then-marks-x-eq0 : goal.returns-then-marks-x-eq0
returns-then-marks-x-eq0 c =
    let l = c.loop-x in
    sought_here _ _ _ (omega arith) l.invariant (ap not (le-ltb 0 (get_or c.args.marks.now l.x 0) (omega arith)))

pub returns : goal.returns
returns c = sought_none _ _ _ (omega arith) c.loop-x.invariant
