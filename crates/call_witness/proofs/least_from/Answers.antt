-- `call_witness::least_from` meets its contract. The loop's invariant: none from the start up to a net may move. Assumes nothing.
use native.Mathlib.Omega.{arith}
use mathlib.Core.Path.{sym, ◌∙◌}
use Rattle.circuit_steps.specs.Moves.{loaded_net, row_in}
use Rattle.call_witness.specs.Lists.{moving}
use Rattle.call_witness.proofs.Steps.{at_held, not_held, none_more, found_first, found_none}
use Rattle.call_witness.proofs.least_from.Goals as goal
use Rattle.call_witness.proofs.least_from.Goals.{then-net-held+else-may_switch, else-net-held}

pub loop-net-init : goal.loop-net-init
loop-net-init c = (c.requires.4, λ i a b. absurd (omega arith))

pub may_switch-requires : goal.may_switch-requires
may_switch-requires c = (c.requires.0, c.requires.1, c.requires.2, c.requires.3, omega arith)

pub returns-then-may_switch : goal.returns-then-may_switch
returns-then-may_switch c =
    let N = loaded_net c.args.counts c.args.code.now in
    let goal = row_in c.args.counts c.args.goal.now in
    let r = row_in c.args.counts c.args.row.now in
    let l = c.loop-net in
    found_first (moving N goal c.args.held r) _ _ l.net l.invariant.1 (omega arith)
    (sym (not_held N goal c.args.held r l.net c.if-net-held.true _ c.may_switch.ensures) ∙ c.if-may_switch.true)

pub loop-net-preserved : goal.loop-net-preserved
loop-net-preserved c =
    let N = loaded_net c.args.counts c.args.code.now in
    let goal = row_in c.args.counts c.args.goal.now in
    let r = row_in c.args.counts c.args.row.now in
    let l = c.loop-net in (
      omega arith,
      none_more (moving N goal c.args.held r) _ l.net l.invariant.1
          (elim c.if-net-held.branch [
            | then-net-held+else-may_switch w ↦ sym (not_held N goal c.args.held r l.net w.if-net-held.true _ w.may_switch.ensures) ∙ w.if-may_switch.false
            | else-net-held w ↦ at_held N goal c.args.held r l.net w.if-net-held.false
          ]),
    )

pub returns : goal.returns
returns c =
    let l = c.loop-net in
    found_none (moving (loaded_net c.args.counts c.args.code.now) (row_in c.args.counts c.args.goal.now) c.args.held (row_in c.args.counts c.args.row.now)) _ _ _
    (λ i a b. l.invariant.1 i a (omega arith)) (omega arith)
