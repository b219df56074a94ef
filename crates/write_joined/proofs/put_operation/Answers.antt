-- `write_joined::put_operation` meets its contract. Assumes nothing.
use native.Mathlib.Omega.{arith}
use mathlib.Core.Path.{sym, ap, ◌∙◌}
use Rattle.circuit.specs.declared.form.Operands.{Operands}
use Rattle.circuit.specs.Reference.{operand_in, reference_in}
use Rattle.write_joined.specs.Moved.{signal_moved}
use Rattle.write_command.proofs.Putting.{put_same}
use Rattle.write_joined.proofs.Moving.{one_operand, two_operands}
use Rattle.write_joined.proofs.put_operation.Goals as goal

pub overflow_cast-operation : goal.overflow_cast-operation
overflow_cast-operation c = omega (arith, c.operation_of-operation.ensures.high)

pub signal_in_whole-a-requires : goal.signal_in_whole-a-requires
signal_in_whole-a-requires c = (c.requires.1.loaded, c.requires.1.outputs, omega (arith, c.operands_of-operands.ensures.a_in, c.requires.1.fits, c.requires.2))

pub signal_in_whole-b-requires : goal.signal_in_whole-b-requires
signal_in_whole-b-requires c =
    (c.requires.1.loaded, c.requires.1.outputs, omega (arith, c.operands_of-operands.ensures.b_in, c.requires.1.fits, c.requires.2))

pub returns-then-operation-eq1 : goal.returns-then-operation-eq1
returns-then-operation-eq1 c =
    let reference = c.args.reference.now in
    let move = signal_moved (reference_in c.args.place.counts c.args.place.first.now) c.args.place.moved in
    let e = c.operation_of-operation.ensures.is in
    put_same
    (one_operand move (operand_in reference c.args.k 0) (operand_in reference c.args.k 1) e (sym e ∙ c.if-operation-eq1.true)
    (c.signal_in_whole-a.ensures ∙ ap (λ (o : Operands). move o.a) c.operands_of-operands.ensures.is))
    c.put_reference_gate.ensures

pub returns-else-operation-eq1 : goal.returns-else-operation-eq1
returns-else-operation-eq1 c =
    let reference = c.args.reference.now in
    let move = signal_moved (reference_in c.args.place.counts c.args.place.first.now) c.args.place.moved in
    let e = c.operation_of-operation.ensures.is in
    put_same
    (two_operands move (operand_in reference c.args.k 0) (operand_in reference c.args.k 1) e (λ o. c.if-operation-eq1.false (e ∙ o))
    (c.signal_in_whole-a.ensures ∙ ap (λ (o : Operands). move o.a)
    c.operands_of-operands.ensures.is) (c.signal_in_whole-b.ensures ∙ ap
    (λ (o : Operands). move o.b) c.operands_of-operands.ensures.is))
    c.put_reference_gate-else-operation-eq1.ensures
