-- `call_play::take_steps` meets its contract. The loop's invariant: so many steps were taken. Assumes nothing.
use native.Mathlib.Omega.{arith}
use mathlib.Core.Path.{refl, sym, ◌∙◌}
use lib.ListN.{get_or}
use Rattle.circuit.proofs.Settling.{length_stage_gates}
use Rattle.circuit_steps.specs.Moves.{moves, loaded_net, row_in}
use Rattle.circuit_steps.proofs.Rules.{moves_none}
use Rattle.call_play.proofs.Steps.{steps_start, steps_end, steps_barred, steps_on}
use Rattle.call_play.proofs.take_steps.Goals as goal

pub loop-i-init : goal.loop-i-init
loop-i-init c = (steps_start (moves (loaded_net c.args.counts c.args.code.now) (row_in c.args.counts c.args.goal.now)) (row_in c.args.counts c.args.row.now) c.args.list.now, c.requires.2, refl)

pub shape_of-row-then-nets-net : goal.shape_of-row-then-nets-net
shape_of-row-then-nets-net c = c.loop-i.invariant.2

pub returns-then-nets-net : goal.returns-then-nets-net
returns-then-nets-net c =
    let l = c.loop-i in
    record {
      row_for_holds = l.invariant.1;
      steps_are = steps_barred (moves (loaded_net c.args.counts c.args.code.now) (row_in c.args.counts c.args.goal.now)) (row_in c.args.counts c.args.row.now) c.args.list.now l.i _ l.invariant.0 (omega (arith, c.loop-i-test.true))
          (moves_none (loaded_net c.args.counts c.args.code.now) (row_in c.args.counts l.row) (get_or c.args.list.now l.i 0) (row_in c.args.counts c.args.goal.now) (omega (arith, c.if-nets-net.true, length_stage_gates c.args.counts c.args.code.now)));
      row_is = l.invariant.0.row_is;
    }

pub may_switch-requires : goal.may_switch-requires
may_switch-requires c = (c.table-entries.ensures, c.requires.0, c.requires.1, c.loop-i.invariant.1, omega (arith, c.if-nets-net.false))

pub shape_of-row-then-not-may_switch : goal.shape_of-row-then-not-may_switch
shape_of-row-then-not-may_switch c = c.loop-i.invariant.2

pub returns-then-not-may_switch : goal.returns-then-not-may_switch
returns-then-not-may_switch c =
    let l = c.loop-i in
    record {
      row_for_holds = l.invariant.1;
      steps_are = steps_barred (moves (loaded_net c.args.counts c.args.code.now) (row_in c.args.counts c.args.goal.now)) (row_in c.args.counts c.args.row.now) c.args.list.now l.i _ l.invariant.0 (omega (arith, c.loop-i-test.true)) (sym c.may_switch.ensures ∙ c.if-not-may_switch.true);
      row_is = l.invariant.0.row_is;
    }

pub switch_net-requires : goal.switch_net-requires
switch_net-requires c = (c.loop-i.invariant.1, omega (arith, c.if-nets-net.false))

pub loop-i-preserved : goal.loop-i-preserved
loop-i-preserved c =
    let l = c.loop-i in
    let s = c.switch_net.ensures in (
      rw s.toggled (steps_on (moves (loaded_net c.args.counts c.args.code.now) (row_in c.args.counts c.args.goal.now)) (row_in c.args.counts c.args.row.now) c.args.list.now l.i _ l.invariant.0 (omega (arith, c.loop-i-test.true)) (sym c.may_switch.ensures ∙ c.if-not-may_switch.false)),
      s.row,
      omega (arith, c.row-1.given, l.invariant.2),
    )

pub shape_of-row : goal.shape_of-row
shape_of-row c = c.loop-i.invariant.2

pub returns : goal.returns
returns c =
    let l = c.loop-i in
    let e = steps_end (moves (loaded_net c.args.counts c.args.code.now) (row_in c.args.counts c.args.goal.now)) (row_in c.args.counts c.args.row.now) c.args.list.now l.i _ l.invariant.0 (omega (arith, c.loop-i-test.false)) in
    record { row_for_holds = l.invariant.1; steps_are = e.0; row_is = e.1 }
