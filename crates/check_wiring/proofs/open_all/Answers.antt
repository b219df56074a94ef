-- `check_wiring::open_all` meets its contract. The loop's invariant: what stands behind the Ki of each register before k is known. Assumes nothing.
use native.Mathlib.Omega.{arith}
use Prim.Native.Nat.{◌<◌}
use mathlib.Core.Path.{◌∙◌}
use lib.ListN.{length}
use Rattle.check_wiring.proofs.Opening.{opened_more}
use Rattle.check_wiring.proofs.open_all.Goals as goal

pub loop-k-preserved : goal.loop-k-preserved
loop-k-preserved c =
    let l = c.loop-k.invariant in
    let h : c.loop-k.k < length c.args.behind.now = omega (arith, l.0.long, c.loop-k-test.true) in
    let o = c.open_net.ensures in (
      opened_more _ _ _ _ _ _ _ h o.told l.0,
      o.table,
      o.met_long ∙ l.2,
    )

pub returns : goal.returns
returns c = let l = c.loop-k.invariant in record { long = l.0.long; told = λ i h. l.0.told i (omega (arith, h, l.0.long, c.loop-k-test.false)) }
