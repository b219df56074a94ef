-- `text_write::put_text` meets its contract. Assumes nothing.
use native.Mathlib.Omega.{arith}
use Rattle.text_write.proofs.Loops.{first_of_five, second_of_five, third_of_five, fourth_of_five, fifth_of_five, five_put}
use Rattle.text_write.proofs.Names.{text_parts}
use Rattle.text_write.proofs.put_text.Goals as goal

pub put_input_names-inputs-requires : goal.put_input_names-inputs-requires
put_input_names-inputs-requires c =
    (c.requires.1, c.requires.0.within.inputs_in, first_of_five (text_parts c.args.counts c.args.code.now) c.args.work.now 0 (omega (arith, c.requires.3)))

pub put_char-line1-requires : goal.put_char-line1-requires
put_char-line1-requires c = second_of_five (text_parts c.args.counts c.args.code.now) c.args.work.now 0 (omega (arith, c.requires.3)) c.put_input_names-inputs.ensures

pub put_output_names-outputs-requires : goal.put_output_names-outputs-requires
put_output_names-outputs-requires c =
    let room = third_of_five (text_parts c.args.counts c.args.code.now) c.args.work.now 0 (omega (arith, c.requires.3)) c.put_input_names-inputs.ensures c.put_char-line1.ensures in
    (c.requires.0, c.requires.2, room)

pub put_char-line2-requires : goal.put_char-line2-requires
put_char-line2-requires c =
    fourth_of_five (text_parts c.args.counts c.args.code.now) c.args.work.now 0 (omega (arith, c.requires.3)) c.put_input_names-inputs.ensures c.put_char-line1.ensures
    c.put_output_names-outputs.ensures

pub put_gates-requires : goal.put_gates-requires
put_gates-requires c =
    let room = fifth_of_five (text_parts c.args.counts c.args.code.now) c.args.work.now 0 (omega (arith, c.requires.3)) c.put_input_names-inputs.ensures c.put_char-line1.ensures
    c.put_output_names-outputs.ensures c.put_char-line2.ensures in
    (c.requires.0, room)

pub returns : goal.returns
returns c =
    five_put (text_parts c.args.counts c.args.code.now) c.args.work.now 0 (omega (arith, c.requires.3)) c.put_input_names-inputs.ensures c.put_char-line1.ensures
    c.put_output_names-outputs.ensures c.put_char-line2.ensures c.put_gates.ensures
