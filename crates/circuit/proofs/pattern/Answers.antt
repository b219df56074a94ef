-- `circuit::pattern` meets its contract. Assumes nothing.
use native.Mathlib.Omega.{arith}
use Rattle.circuit.proofs.Pins.{net_there, pattern_nets}
use Rattle.circuit.proofs.pattern.Goals as goal

pub level-a-requires : goal.level-a-requires
level-a-requires c = net_there c.args.counts c.args.row.now c.requires.2 _ c.pins_of-pins.ensures.a_in

pub level-b-requires : goal.level-b-requires
level-b-requires c = net_there c.args.counts c.args.row.now c.requires.2 _ c.pins_of-pins.ensures.b_in

pub level-c-requires : goal.level-c-requires
level-c-requires c = net_there c.args.counts c.args.row.now c.requires.2 _ c.pins_of-pins.ensures.c_in

pub level-d-requires : goal.level-d-requires
level-d-requires c = net_there c.args.counts c.args.row.now c.requires.2 _ c.pins_of-pins.ensures.d_in

pub returns : goal.returns
returns c =
    omega (
      arith,
      pattern_nets c.args.counts c.args.code.now c.args.row.now c.requires.0 c.requires.2 c.args.k c.requires.1 _ c.pins_of-pins.ensures.is,
    )
