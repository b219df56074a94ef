-- `read_file::used_operands` meets its contract: a gate's code stands before its operands. Assumes nothing.
use native.Mathlib.Omega.{arith}
use Rattle.netlist.specs.Commands.{used}
use Rattle.read_command.proofs.Forms.{gate_lead, element_wide}
use Rattle.read_file.proofs.Search.{used_all}
use Rattle.read_file.proofs.used_operands.Goals as goal

pub bounds-s-at : goal.bounds-s-at
bounds-s-at c = omega (arith, gate_lead _ _ c.requires.0 c.in-Gate.is, c.requires.1)

pub pins_used-requires : goal.pins_used-requires
pins_used-requires c =
    omega (arith, element_wide _ _ c.requires.0 c.in-Element.is, c.requires.1)

pub returns-in-Gate : goal.returns-in-Gate
unfolding used
returns-in-Gate c = rw c.in-Gate.is c.needed.ensures

pub returns-in-Element : goal.returns-in-Element
unfolding used
returns-in-Element c = rw c.in-Element.is c.pins_used.ensures

pub returns-in_default : goal.returns-in_default
returns-in_default c = used_all _ _ _ _ c.in_default.not-Gate c.in_default.not-Element
