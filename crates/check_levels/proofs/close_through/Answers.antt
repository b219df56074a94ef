-- `check_levels::close_through` meets its contract. The loop's invariant: the registers before t have the sources of j added, where j is among theirs. Assumes nothing.
use native.Mathlib.Omega.{arith}
use mathlib.Core.Path.{◌≡◌, refl}
use lib.ListN.{length}
use Rattle.check_levels.proofs.Closing.{through_none, through_more}
use Rattle.check_levels.proofs.close_through.Goals as goal

pub loop-t-init : goal.loop-t-init
loop-t-init c = (refl, through_none _ _)

pub loop-t-preserved : goal.loop-t-preserved
loop-t-preserved c =
    let l = c.loop-t in (
      l.invariant.0,
      through_more _ _ _ _ _ _ (omega (arith, l.invariant.1.long, c.loop-t-test.true)) l.invariant.1 c.is_source-add.ensures (rw l.invariant.0 at c.joined.ensures),
    )

pub returns : goal.returns
returns c =
    let l = c.loop-t in
    let e : l.t ≡ length c.args.sources.now = omega (arith, l.invariant.1.long, c.loop-t-test.false) in
    rw e at l.invariant.1
