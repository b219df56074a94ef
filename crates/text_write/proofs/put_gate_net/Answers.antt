-- `text_write::put_gate_net` meets its contract. The loop's invariant: no output before output i is on the net. Assumes nothing.
use native.Mathlib.Omega.{arith}
use mathlib.Core.Path.{refl, ap}
use lib.ListN.{length}
use Rattle.write_decimal.proofs.Decimal.{next_same}
use Rattle.text_write.proofs.Names.{not-before, on_rail_0, on_rail_1, not_on, gate_name_holds}
use Rattle.text_write.proofs.put_gate_net.Goals as goal

pub loop-i-init : goal.loop-i-init
loop-i-init c = (refl, not-before c.args.counts c.args.code.now c.args.v c.requires.1)

pub overflow_cast-rails : goal.overflow_cast-rails
overflow_cast-rails c = let w = c.requires.0.within in omega (arith, c.rails_of-rails.ensures.rail0_in, w.inputs_in, w.gates_in_holds)

pub put_rail-requires : goal.put_rail-requires
put_rail-requires c =
    let e = on_rail_0 c.args.counts c.args.code.now c.args.v c.loop-i.invariant.1
    c.loop-i-test.true (rw c.rails_of-rails.ensures.is at c.if-rails-v.true) in
    rw c.loop-i.invariant.0
    (omega (arith, c.loop-i-test.true, c.requires.0.within.outputs_in_holds), omega arith, omega (arith, ap length e, c.requires.3))

pub returns-then-rails-v : goal.returns-then-rails-v
returns-then-rails-v c =
    next_same (on_rail_0 c.args.counts c.args.code.now c.args.v c.loop-i.invariant.1
    c.loop-i-test.true
    (rw c.rails_of-rails.ensures.is at c.if-rails-v.true))
    (rw c.loop-i.invariant.0 at c.put_rail.ensures)

pub overflow_cast-rails-in-loop-i : goal.overflow_cast-rails-in-loop-i
overflow_cast-rails-in-loop-i c =
    let w = c.requires.0.within in
    omega (arith, c.rails_of-rails.ensures.rail1_in, w.inputs_in, w.gates_in_holds)

pub put_rail-requires-then-rails-v-2 : goal.put_rail-requires-then-rails-v-2
put_rail-requires-then-rails-v-2 c =
    let is = c.rails_of-rails.ensures.is in
    let e = on_rail_1 c.args.counts c.args.code.now c.args.v c.loop-i.invariant.1
    c.loop-i-test.true (rw is at c.if-rails-v.false) (rw is at c.if-rails-v-2.true) in
    rw c.loop-i.invariant.0 (
      omega (arith, c.loop-i-test.true, c.requires.0.within.outputs_in_holds),
      omega arith,
      omega
          (arith, ap length e, c.requires.3),
    )

pub returns-then-rails-v-2 : goal.returns-then-rails-v-2
returns-then-rails-v-2 c =
    let is = c.rails_of-rails.ensures.is in
    next_same (on_rail_1 c.args.counts c.args.code.now c.args.v
    c.loop-i.invariant.1
    c.loop-i-test.true
    (rw is at c.if-rails-v.false) (rw is at c.if-rails-v-2.true))
    (rw c.loop-i.invariant.0 at c.put_rail-then-rails-v-2.ensures)

pub loop-i-preserved : goal.loop-i-preserved
loop-i-preserved c =
    let is = c.rails_of-rails.ensures.is in (
      c.loop-i.invariant.0,
      not_on c.args.counts c.args.code.now c.args.v
          c.loop-i.invariant.1 c.loop-i-test.true
          (rw is at c.if-rails-v.false) (rw is at c.if-rails-v-2.false),
    )

pub put_numbered-requires : goal.put_numbered-requires
put_numbered-requires c =
    let e = gate_name_holds c.args.counts c.args.code.now c.args.v c.loop-i.invariant.1 c.loop-i-test.false in
    rw c.loop-i.invariant.0 (omega (arith, c.requires.2, c.requires.0.within.gates_in_holds), omega (arith, ap length e, c.requires.3))

pub returns : goal.returns
returns c =
    next_same (gate_name_holds c.args.counts c.args.code.now c.args.v c.loop-i.invariant.1
    c.loop-i-test.false) (rw
    c.loop-i.invariant.0 at c.put_numbered.ensures)
