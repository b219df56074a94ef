-- `write_joined::put_reference` meets its contract: its parts are put one after the other. Assumes nothing.
use Prim.Native.Nat.{◌+◌}
use native.Mathlib.Omega.{arith}
use mathlib.Core.Path.{◌≡◌, refl, ap}
use lib.ListN.{length}
use Rattle.netlist.specs.declared.File.TheVariants as file
use Rattle.netlist.specs.Writing.{gate}
use Rattle.circuit.specs.Reference.{reference_in}
use Rattle.write_command.specs.Parts.{signal_item, bytes_of}
use Rattle.write_command.proofs.Putting.{put_same}
use Rattle.write_joined.proofs.Whole.{reference_long_in, reference_put, operations_stay, operations_move, signals_move, operators_count, signals_count}
use Rattle.write_joined.proofs.put_reference.Goals as goal

pub put_inputs-requires : goal.put_inputs-requires
put_inputs-requires c =
    let long = reference_long_in c.args.sizes1 c.args.reference1.now c.args.sizes2 c.args.reference2.now in
    (omega (arith, long, c.requires.3), omega (arith, c.requires.0.within.inputs_in))

pub put_operations-requires : goal.put_operations-requires
put_operations-requires c =
    let long = reference_long_in c.args.sizes1 c.args.reference1.now c.args.sizes2 c.args.reference2.now in
    let w = c.requires.0.within in
    (c.requires.0, record { loaded = c.requires.0; outputs = omega arith; fits = omega (arith, w.inputs_in, w.gates_in_holds) }, omega (arith, long, c.requires.3))

pub put_operations-requires-2 : goal.put_operations-requires-2
put_operations-requires-2 c =
    let long = reference_long_in c.args.sizes1 c.args.reference1.now c.args.sizes2 c.args.reference2.now in
    let w = c.requires.0.within in
    let v = c.requires.1.within in (
      c.requires.1,
      record { loaded = c.requires.0; outputs = omega (arith, c.requires.2); fits = omega (arith, w.inputs_in, w.gates_in_holds, v.inputs_in, v.gates_in_holds) },
      omega (arith, long, c.requires.3),
    )

pub put_signals-requires : goal.put_signals-requires
put_signals-requires c =
    let long = reference_long_in c.args.sizes1 c.args.reference1.now c.args.sizes2 c.args.reference2.now in
    let w = c.requires.0.within in
    let v = c.requires.1.within in (
      c.requires.1,
      record { loaded = c.requires.0; outputs = omega (arith, c.requires.2); fits = omega (arith, w.inputs_in, w.gates_in_holds, v.inputs_in, v.gates_in_holds) },
      omega (arith, long, c.requires.3),
    )

pub put_end-requires : goal.put_end-requires
put_end-requires c =
    let long = reference_long_in c.args.sizes1 c.args.reference1.now c.args.sizes2 c.args.reference2.now in
    omega (
      arith,
      long,
      c.requires.3,
      c.put_signals.ensures.long,
      c.put_operations-2.ensures.long,
      c.put_operations.ensures.long,
      c.put_inputs.ensures.long,
    )

pub returns : goal.returns
returns c =
    let sizes1 = c.args.sizes1 in
    let sizes2 = c.args.sizes2 in
    let reference1 = c.args.reference1.now in
    let reference2 = c.args.reference2.now in
    let A = reference_in sizes1 reference1 in
    let B = reference_in sizes2 reference2 in
    let gates = bytes_of file.Reference gate in
    let signals = bytes_of file.Reference signal_item in
    let start : sizes1.inputs + sizes1.gates ≡ A.inputs + length A.gates = omega (arith, operators_count sizes1 reference1) in
    reference_put A B c.put_inputs.ensures
    (put_same (ap gates (operations_stay A (record { inputs = 0; start = 0 }) refl refl A.gates))
    c.put_operations.ensures)
    (put_same (ap gates (operations_move A (record { inputs = sizes2.inputs; start = sizes1.inputs + sizes1.gates }) B refl start B.gates))
    c.put_operations-2.ensures)
    (put_same (ap signals (signals_move A (record { inputs = sizes2.inputs; start = sizes1.inputs + sizes1.gates }) B refl start B.outputs))
    c.put_signals.ensures)
    c.put_end.ensures
    (record {
      gates = refl;
      gates2 = omega (arith, operators_count sizes1 reference1);
      outputs = omega (arith, operators_count sizes2 reference2);
      end = omega (arith, signals_count sizes2 reference2);
    })
