-- `circuit_order::reaches_itself` meets its contract: a visit of what the gate comes from tells whether it reaches itself. Assumes nothing.
use Rattle.circuit_order.proofs.Visiting.{visit_tells}
use Rattle.circuit_order.proofs.reaches_itself.Goals as goal

-- src/lib.rt:106:1
pub returns : goal.returns
returns c =
    visit_tells c.args.counts c.args.code.now c.requires.0 c.args.g c.requires.1 c.args.left.now _ c.requires.2 c.visit.ensures
