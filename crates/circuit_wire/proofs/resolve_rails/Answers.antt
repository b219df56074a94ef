-- `circuit_wire::resolve_rails` meets its contract. The loop's invariant: the nets before row i have the net that they come from. Assumes nothing.
use Rattle.circuit_wire.proofs.Wiring.{resolved_more}
use Rattle.circuit_wire.proofs.resolve_rails.Goals as goal

pub loop-i-preserved : goal.loop-i-preserved
loop-i-preserved c = let l = c.loop-i in resolved_more _ _ _ _ _ _ c.loop-i-test.true l.invariant c.resolve.ensures
