-- `check_levels::raise` meets its contract. The loop's invariant: the round has come to register t. Assumes nothing.
use native.Mathlib.Omega.{arith}
use mathlib.Core.Path.{◌≡◌}
use lib.ListN.{length}
use borrow.Author.Tests.{eq-eqb, ne_eqb}
use Rattle.check_levels.proofs.Raising.{raised_none, raised_known, raised_other}
use Rattle.check_levels.proofs.raise.Goals as goal
use Rattle.check_levels.proofs.raise.Goals.{then-sources-t-eq0, else-sources-t-eq0}

pub loop-t-init : goal.loop-t-init
loop-t-init c = raised_none _ _ _ _

pub loop-t-preserved : goal.loop-t-preserved
loop-t-preserved c =
    let l = c.loop-t in
    elim c.if-sources-t-eq0.branch [
      | then-sources-t-eq0 w ↦ rw (w.levels-is, w.next-is) (raised_known _ _ _ _ _ _ _ l.invariant (omega (arith, l.invariant.long, c.loop-t-test.true)) (omega (arith, c.requires.1, l.invariant.long, c.loop-t-test.true)) (eq-eqb _ 0 w.if-sources-t-eq0.true))
      | else-sources-t-eq0 w ↦ rw (w.levels-is, w.next-is) (raised_other _ _ _ _ _ _ _ l.invariant (omega (arith, l.invariant.long, c.loop-t-test.true)) (omega (arith, c.requires.1, l.invariant.long, c.loop-t-test.true)) (ne_eqb _ 0 w.if-sources-t-eq0.false))
    ]

pub returns : goal.returns
returns c =
    let l = c.loop-t in
    let e : l.t ≡ length c.args.levels.now = omega (arith, l.invariant.long, c.loop-t-test.false) in
    rw e at l.invariant
