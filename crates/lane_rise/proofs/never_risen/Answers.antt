-- `lane_rise::never_risen` meets its contract. The loop's invariant: the gates before gate g are noted. Assumes nothing.
use Prim.Native.Nat.{◌<◌}
use native.Mathlib.Omega.{arith}
use mathlib.Core.Path.{sym}
use borrow.Author.Count.{below_more}
use lib.ListN.{get_or}
use Rattle.lane_rise.proofs.Lanes.{some_lane}
use Rattle.lane_rise.proofs.Never.{least_never, none_never}
use Rattle.lane_rise.proofs.never_risen.Goals as goal

pub returns-then-rose-g-eq0 : goal.returns-then-rose-g-eq0
returns-then-rose-g-eq0 c s e noted =
    let h : c.loop-g.g < c.args.count = omega arith in
    rw (← e) (least_never s c.args.rose.now noted c.loop-g.g c.loop-g.invariant (omega (arith, e)) c.if-rose-g-eq0.true)

pub loop-g-preserved : goal.loop-g-preserved
loop-g-preserved c =
    let fits = (c.type_inv.rose c.loop-g.g).fits in
    below_more _ _ c.loop-g.invariant (some_lane 64 (get_or c.args.rose.now c.loop-g.g 0) fits c.if-rose-g-eq0.false)

pub returns : goal.returns
returns c s e noted =
    let l = c.loop-g in
    rw (← e) (none_never s c.args.rose.now noted c.args.count (λ i h. l.invariant i (omega arith)) (sym e))
