-- `text_write::put_output_name` meets its contract. Assumes nothing.
use native.Mathlib.Omega.{arith}
use mathlib.Core.Path.{sym, ap, ◌∙◌}
use lib.ListN.{length}
use Rattle.circuit.specs.Stage.{output_in}
use Rattle.write_decimal.proofs.Decimal.{next_same}
use Rattle.text_write.proofs.Names.{straight_name, own_name}
use Rattle.text_write.proofs.put_output_name.Goals as goal

pub put_numbered-requires : goal.put_numbered-requires
put_numbered-requires c =
    let e = straight_name c.args.counts.inputs c.args.j (output_in c.args.counts c.args.code.now c.args.j)
    (sym c.is_straight.ensures ∙ c.if-is_straight.true) in
    rw c.rails_of-rail0.ensures.is (
      omega (arith, c.requires.0.rail0_net c.args.j c.requires.1, c.requires.0.within.inputs_in, c.requires.0.within.gates_in_holds),
      omega (arith, ap length e, c.requires.2),
    )

pub returns-then-is_straight : goal.returns-then-is_straight
returns-then-is_straight c =
    next_same (straight_name c.args.counts.inputs c.args.j (output_in c.args.counts c.args.code.now c.args.j)
    (sym c.is_straight.ensures ∙ c.if-is_straight.true))
    (rw c.rails_of-rail0.ensures.is at c.put_numbered.ensures)

pub put_numbered-requires-2 : goal.put_numbered-requires-2
put_numbered-requires-2 c =
    let e = own_name c.args.counts.inputs c.args.j (output_in c.args.counts c.args.code.now c.args.j) (sym c.is_straight.ensures ∙ c.if-is_straight.false) in
    (omega (arith, c.requires.1, c.requires.0.within.outputs_in_holds), omega (arith, ap length e, c.requires.2))

pub returns : goal.returns
returns c =
    next_same (own_name c.args.counts.inputs c.args.j (output_in c.args.counts c.args.code.now c.args.j)
    (sym c.is_straight.ensures ∙ c.if-is_straight.false))
    c.put_numbered-2.ensures
