-- `write_joined::put_stage` meets its contract: its parts are put one after the other. Assumes nothing.
use native.Mathlib.Omega.{arith}
use Prim.Native.Nat.{◌+◌, ◌*◌}
use mathlib.Core.Path.{◌≡◌, refl, ap}
use Rattle.netlist.specs.declared.File.TheVariants as file
use Rattle.netlist.specs.Formed.{nets}
use Rattle.circuit.specs.Stage.{stage_in}
use Rattle.write_command.specs.Parts.{gate_item, pair_item, bytes_of}
use Rattle.write_command.proofs.Putting.{put_same}
use Rattle.write_joined.proofs.Whole.{stage_long_in, stage_put, gates_stay, gates_move, pairs_move, gates_count, outputs_count, care_count}
use Rattle.write_joined.proofs.put_stage.Goals as goal

pub put_inputs-requires : goal.put_inputs-requires
put_inputs-requires c =
    let long = stage_long_in c.args.counts1 c.args.code1.now c.args.counts2 c.args.code2.now in
    (omega (arith, long, c.requires.3), omega (arith, c.requires.0.within.inputs_in))

pub put_care_words-requires : goal.put_care_words-requires
put_care_words-requires c =
    let long = stage_long_in c.args.counts1 c.args.code1.now c.args.counts2 c.args.code2.now in
    (c.requires.0, omega (arith, long, c.requires.3))

pub put_gates-requires : goal.put_gates-requires
put_gates-requires c =
    let long = stage_long_in c.args.counts1 c.args.code1.now c.args.counts2 c.args.code2.now in
    let w = c.requires.0.within in
    (c.requires.0, record { loaded = c.requires.0; outputs = omega arith; fits = omega (arith, w.inputs_in, w.gates_in_holds) }, omega (arith, long, c.requires.3))

pub put_gates-requires-2 : goal.put_gates-requires-2
put_gates-requires-2 c =
    let long = stage_long_in c.args.counts1 c.args.code1.now c.args.counts2 c.args.code2.now in
    let w = c.requires.0.within in
    let v = c.requires.1.within in (
      c.requires.1,
      record { loaded = c.requires.0; outputs = omega (arith, c.requires.2); fits = omega (arith, w.inputs_in, w.gates_in_holds, v.inputs_in, v.gates_in_holds) },
      omega (arith, long, c.requires.3),
    )

pub put_outputs-requires : goal.put_outputs-requires
put_outputs-requires c =
    let long = stage_long_in c.args.counts1 c.args.code1.now c.args.counts2 c.args.code2.now in
    let w = c.requires.0.within in
    let v = c.requires.1.within in (
      c.requires.1,
      record { loaded = c.requires.0; outputs = omega (arith, c.requires.2); fits = omega (arith, w.inputs_in, w.gates_in_holds, v.inputs_in, v.gates_in_holds) },
      omega (
        arith,
        long,
        c.requires.3,
        c.put_gates-2.ensures.long,
        c.put_gates.ensures.long,
        c.put_care_words.ensures.long,
        c.put_inputs.ensures.long,
      ),
    )

pub put_end-requires : goal.put_end-requires
put_end-requires c =
    let long = stage_long_in c.args.counts1 c.args.code1.now c.args.counts2 c.args.code2.now in
    omega (
      arith,
      long,
      c.requires.3,
      c.put_outputs.ensures.long,
      c.put_gates-2.ensures.long,
      c.put_gates.ensures.long,
      c.put_care_words.ensures.long,
      c.put_inputs.ensures.long,
    )

pub returns : goal.returns
returns c =
    let counts1 = c.args.counts1 in
    let counts2 = c.args.counts2 in
    let code1 = c.args.code1.now in
    let code2 = c.args.code2.now in
    let A = stage_in counts1 code1 in
    let B = stage_in counts2 code2 in
    let gate = bytes_of file.Stage gate_item in
    let pair = bytes_of file.Stage pair_item in
    let start : 2 * counts1.inputs + counts1.gates ≡ nets A = omega (arith, gates_count counts1 code1) in
    stage_put A B c.put_inputs.ensures
    c.put_care_words.ensures
    (put_same (ap gate (gates_stay A (record { inputs = 0; start = 0 }) refl refl A.gates))
    c.put_gates.ensures)
    (put_same (ap gate (gates_move A (record { inputs = counts2.inputs; start = 2 * counts1.inputs + counts1.gates }) B refl start B.gates))
    c.put_gates-2.ensures)
    (put_same (ap pair (pairs_move A (record { inputs = counts2.inputs; start = 2 * counts1.inputs + counts1.gates }) B refl start B.outputs))
    c.put_outputs.ensures)
    c.put_end.ensures
    (record {
      cares = refl;
      gates = omega (arith, care_count counts1 code1);
      gates2 = omega (arith, gates_count counts1 code1);
      outputs = omega (arith, gates_count counts2 code2);
      end = omega (arith, outputs_count counts2 code2);
    })
