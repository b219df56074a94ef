-- `read_command::needed` meets its contract: a kind of the stage by `gates::kind_of`, an operation of the reference by its range.
-- Assumes nothing.
use native.Mathlib.Omega.{arith}
use mathlib.Core.Path.{sym}
use Rattle.netlist.specs.Commands.{needed}
use Rattle.read_command.proofs.Forms.{kind_needed, operation_two, operation_zero, operation_past}
use Rattle.read_command.proofs.needed.Goals as goal

pub returns-in-1 : goal.returns-in-1
unfolding needed
returns-in-1 c = rw (c.in-Reference.is, c.in-1.is)

pub returns-in-2-to-6 : goal.returns-in-2-to-6
returns-in-2-to-6 c =
    rw c.in-Reference.is (sym (operation_two c.args.code (omega arith)
    (omega arith)))

pub returns-in_default-code : goal.returns-in_default-code
returns-in_default-code c = rw c.in-Reference.is (sym (operation_zero c.args.code (omega arith)))

pub returns-in_default-code-2 : goal.returns-in_default-code-2
returns-in_default-code-2 c = rw c.in-Reference.is (sym (operation_past c.args.code (omega arith)))

pub returns-in_default : goal.returns-in_default
returns-in_default c =
    rw (← kind_needed c.args.file c.in_default.not-Reference c.args.code, ← c.kind_of.ensures) c.pins_needed.ensures
