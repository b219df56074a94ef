-- `circuit_load::reference_number` meets its contract. Assumes nothing.
use Prim.Native.Nat.{◌-◌, ◌*◌, ◌/◌}
use native.Mathlib.Omega.{arith}
use mathlib.Core.Path.{◌∙◌}
use Rattle.circuit_load.proofs.Numbers.{reference_gate, reference_output}
use Rattle.circuit_load.proofs.Reading.{operator_room, signal_room}
use Rattle.circuit_load.proofs.reference_number.Goals as goal

pub operator_number-requires : goal.operator_number-requires
operator_number-requires c =
    operator_room c.args.most c.args.s.now c.args.places.now c.args.counts c.requires.0 (c.args.i / 3) (omega arith)

pub returns-then-i-end : goal.returns-then-i-end
returns-then-i-end c =
    c.operator_number.ensures ∙ reference_gate c.args.most c.args.s.now c.args.places.now c.args.counts c.args.i
    c.if-i-end.true

pub operand-requires : goal.operand-requires
operand-requires c =
    let j = c.args.i - 3 * c.args.counts.gates in
    omega (arith, signal_room c.args.most c.args.s.now c.args.places.now c.args.counts c.requires.0 j (omega arith))

pub returns : goal.returns
returns c =
    c.operand.ensures ∙ reference_output c.args.most c.args.s.now c.args.places.now c.args.counts c.args.i (omega arith)
