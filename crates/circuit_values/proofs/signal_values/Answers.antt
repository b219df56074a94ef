-- `circuit_values::signal_values` meets its contract. The loop's invariant: the values of the first k gates are written. Assumes nothing.
use native.Mathlib.Omega.{arith}
use Rattle.circuit.proofs.Values.{values_turn, values_done}
use Rattle.circuit_values.proofs.signal_values.Goals as goal

pub operator_value-requires : goal.operator_value-requires
operator_value-requires c =
    let v = c.loop-k.invariant in
    (c.requires.0, omega arith, omega (arith, v.same_long), v.bits)

pub loop-k-preserved : goal.loop-k-preserved
loop-k-preserved c =
    let l = c.loop-k in
    values_turn c.args.sizes c.args.reference.now c.args.values.now l.values l.k l.invariant c.requires.1 (omega arith) _
    c.operator_value.ensures

pub shape_of-values : goal.shape_of-values
shape_of-values c = c.loop-k.invariant.same_long

pub returns : goal.returns
returns c =
    let l = c.loop-k in
    (values_done c.args.sizes c.args.reference.now c.args.values.now l.values l.k l.invariant (omega arith), l.invariant.bits)
