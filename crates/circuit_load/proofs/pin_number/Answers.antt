-- `circuit_load::pin_number` meets its contract. Assumes nothing.
use mathlib.Core.Path.{◌∙◌}
use Rattle.circuit_load.proofs.Numbers.{pin_there, pin_absent}
use Rattle.circuit_load.proofs.pin_number.Goals as goal

pub returns-then-i-pins : goal.returns-then-i-pins
returns-then-i-pins c =
    c.operand.ensures ∙ pin_there c.args.s.now c.args.at c.args.ground _ _ c.if-i-pins.true

pub returns : goal.returns
returns c = pin_absent c.args.s.now c.args.at c.args.ground _ _ c.if-i-pins.false
