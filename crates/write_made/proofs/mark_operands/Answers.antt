-- `write_made::mark_operands` meets its contract. Assumes nothing.
use native.Mathlib.Omega.{arith}
use mathlib.Core.Path.{sym, ◌∙◌}
use lib.ListN.{length-set}
use Rattle.write_made.proofs.Marking.{operands_one, operands_two}
use Rattle.write_made.proofs.mark_operands.Goals as goal

pub overflow_cast-a : goal.overflow_cast-a
overflow_cast-a c = omega (arith, c.operands_of-operands.ensures.a_in, c.requires.0.within.inputs_in, c.requires.0.within.gates_in_holds, c.requires.1)

pub bounds-marks-a : goal.bounds-marks-a
bounds-marks-a c = omega (arith, c.operands_of-operands.ensures.a_in, c.requires.1, c.requires.2)

pub overflow_cast-b : goal.overflow_cast-b
overflow_cast-b c =
    omega (arith, c.operands_of-operands.ensures.b_in, c.requires.0.within.inputs_in, c.requires.0.within.gates_in_holds, c.requires.1)

pub bounds-marks-b : goal.bounds-marks-b
bounds-marks-b c =
    simp length-set (omega (arith, c.operands_of-operands.ensures.b_in, c.requires.1, c.requires.2))

pub returns-then-operation_of-ne1 : goal.returns-then-operation_of-ne1
returns-then-operation_of-ne1 c =
    rw c.operands_of-operands.ensures.is
    (operands_two _ _ _ _ (λ e. c.if-operation_of-ne1.true (c.operation_of.ensures.is ∙ e)))

pub returns-else-operation_of-ne1 : goal.returns-else-operation_of-ne1
returns-else-operation_of-ne1 c = rw c.operands_of-operands.ensures.is (operands_one _ _ _ _ (sym c.operation_of.ensures.is ∙ c.if-operation_of-ne1.false))
