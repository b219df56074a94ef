-- `text_write::put_gate` meets its contract. Assumes nothing.
use native.Mathlib.Omega.{arith}
use Rattle.text_write.proofs.Loops.{first_of_five, second_of_five, third_of_five, fourth_of_five, fifth_of_five, five_put}
use Rattle.text_write.proofs.Names.{line_parts}
use Rattle.text_write.proofs.put_gate.Goals as goal

pub put_kind-kind-requires : goal.put_kind-kind-requires
put_kind-kind-requires c =
    (c.requires.0, c.requires.1, c.requires.2, first_of_five (line_parts c.args.counts c.args.code.now c.args.k) c.args.work.now c.args.at c.requires.3)

pub put_char-pins-requires : goal.put_char-pins-requires
put_char-pins-requires c = second_of_five (line_parts c.args.counts c.args.code.now c.args.k) c.args.work.now c.args.at c.requires.3 c.put_kind-kind.ensures

pub put_pins-last-requires : goal.put_pins-last-requires
put_pins-last-requires c =
    let room = third_of_five (line_parts c.args.counts c.args.code.now c.args.k) c.args.work.now c.args.at c.requires.3 c.put_kind-kind.ensures c.put_char-pins.ensures in
    (c.requires.1, c.requires.2, room)

pub put_char-net-requires : goal.put_char-net-requires
put_char-net-requires c =
    fourth_of_five (line_parts c.args.counts c.args.code.now c.args.k) c.args.work.now c.args.at c.requires.3 c.put_kind-kind.ensures c.put_char-pins.ensures
    c.put_pins-last.ensures

pub put_net-requires : goal.put_net-requires
put_net-requires c =
    let room = fifth_of_five (line_parts c.args.counts c.args.code.now c.args.k) c.args.work.now c.args.at c.requires.3 c.put_kind-kind.ensures c.put_char-pins.ensures
    c.put_pins-last.ensures c.put_char-net.ensures in
    (c.requires.1, omega (arith, c.requires.2), room)

pub returns : goal.returns
returns c =
    five_put (line_parts c.args.counts c.args.code.now c.args.k) c.args.work.now c.args.at c.requires.3 c.put_kind-kind.ensures c.put_char-pins.ensures
    c.put_pins-last.ensures c.put_char-net.ensures c.put_net.ensures
