-- `call_play::has_ended` meets its contract. The loop's invariant: none of the nets that were looked at may switch. Assumes nothing.
use native.Mathlib.Omega.{arith}
use mathlib.Core.Path.{sym, ◌∙◌}
use Rattle.circuit.specs.Stage.{net_count}
use Rattle.circuit_steps.specs.Moves.{moves, loaded_net, row_in}
use Rattle.run_spec.proofs.Play.{none_left_lem, some_left}
use Rattle.call_play.proofs.Steps.{none_more}
use Rattle.call_play.proofs.has_ended.Goals as goal

pub loop-net-init : goal.loop-net-init
loop-net-init c = (omega arith, λ k h. absurd (omega arith))

pub may_switch-requires : goal.may_switch-requires
may_switch-requires c = (c.table-entries.ensures, c.requires.0, c.requires.1, c.requires.2, omega (arith, c.loop-net-test.true))

pub returns-then-may_switch : goal.returns-then-may_switch
returns-then-may_switch c =
    sym (some_left (moves (loaded_net c.args.counts c.args.code.now) (row_in c.args.counts c.args.goal.now)) (net_count c.args.counts) (row_in c.args.counts c.args.row.now) c.loop-net.net (omega (arith, c.loop-net-test.true)) (sym c.may_switch.ensures ∙ c.if-may_switch.true))

pub loop-net-preserved : goal.loop-net-preserved
loop-net-preserved c =
    let l = c.loop-net in
    (omega (arith, c.loop-net-test.true), none_more ((moves (loaded_net c.args.counts c.args.code.now) (row_in c.args.counts c.args.goal.now)) (row_in c.args.counts c.args.row.now)) l.net l.invariant.1 (sym c.may_switch.ensures ∙ c.if-may_switch.false))

pub returns : goal.returns
returns c =
    let l = c.loop-net in
    sym (none_left_lem (moves (loaded_net c.args.counts c.args.code.now) (row_in c.args.counts c.args.goal.now)) (net_count c.args.counts) (row_in c.args.counts c.args.row.now) (λ k h. l.invariant.1 k (omega (arith, c.loop-net-test.false))))
