-- `circuit_order::least_loop` meets its contract. The loop's invariant: no gate before g reaches itself, and those from g on are left. Assumes nothing.
use mathlib.Core.Path.{sym, ◌∙◌}
use native.Mathlib.Omega.{arith}
use Rattle.verdict.proofs.Least.{sought_on, sought_here, sought_none}
use Rattle.circuit_order.proofs.Placing.{fresh}
use Rattle.circuit_order.proofs.Visiting.{from_more}
use Rattle.circuit_order.proofs.least_loop.Goals as goal

pub wait_all-requires : goal.wait_all-requires
wait_all-requires c = fresh _ c.requires.within

pub returns-then-reaches_itself : goal.returns-then-reaches_itself
returns-then-reaches_itself c = sought_here _ _ _ c.loop-g-test.true c.loop-g.invariant.1 (sym c.reaches_itself.ensures ∙ c.if-reaches_itself.true)

pub loop-g-preserved : goal.loop-g-preserved
loop-g-preserved c = let e = sym c.reaches_itself.ensures ∙ c.if-reaches_itself.false in
    (from_more _ _ _ _ c.loop-g-test.true c.loop-g.invariant.0 e, sought_on _ _ _ c.loop-g-test.true c.loop-g.invariant.1 e)

pub returns : goal.returns
returns c = sought_none _ _ _ (omega (arith, c.loop-g-test.false)) c.loop-g.invariant.1
