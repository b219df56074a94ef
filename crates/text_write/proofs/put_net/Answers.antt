-- `text_write::put_net` meets its contract. Assumes nothing.
use native.Mathlib.Omega.{arith}
use mathlib.Core.Path.{ap}
use lib.ListN.{length}
use Rattle.write_decimal.proofs.Decimal.{next_same}
use Rattle.text_write.proofs.Names.{input_name}
use Rattle.text_write.proofs.put_net.Goals as goal

pub put_rail-requires : goal.put_rail-requires
put_rail-requires c =
    let e = input_name c.args.counts c.args.code.now c.args.v c.if-v-counts.true in
    (omega (arith, c.if-v-counts.true, c.requires.0.within.inputs_in), omega arith, omega (arith, ap length e, c.requires.2))

pub returns-then-v-counts : goal.returns-then-v-counts
returns-then-v-counts c =
    next_same (input_name c.args.counts c.args.code.now c.args.v c.if-v-counts.true) c.put_rail.ensures
