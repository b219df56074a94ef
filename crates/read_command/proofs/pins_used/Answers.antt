-- `read_command::pins_used` meets its contract. Assumes nothing.
use borrow.Author.Tests.{eq-eqb, ne_eqb}
use Rattle.netlist.specs.Commands.{pins_used}
use Rattle.read_command.proofs.pins_used.Goals as goal

pub returns-then-operand : goal.returns-then-operand
unfolding pins_used
returns-then-operand c = rw (← c.operand.ensures, eq-eqb _ _ c.if-operand.true)

pub returns-then-operand-2 : goal.returns-then-operand-2
unfolding pins_used
returns-then-operand-2 c = rw (← c.operand.ensures, ne_eqb _ _ c.if-operand.false, ← c.operand-2.ensures, eq-eqb _ _ c.if-operand-2.true)

pub returns : goal.returns
unfolding pins_used
returns c = rw (← c.operand.ensures, ne_eqb _ _ c.if-operand.false, ← c.operand-2.ensures, ne_eqb _ _ c.if-operand-2.false)
