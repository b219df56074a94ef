-- `call_row::settle_stage` meets its contract. Assumes nothing.
use mathlib.Core.Path.{ap, ◌∙◌}
use Rattle.verdict.specs.declared.Verdict.{Verdict}
use Rattle.verdict.specs.Verdicts.{answer_with}
use Rattle.call_row.proofs.Cases.{is_12, is_16, is_17, is-0, rails_bits}
use Rattle.call_row.proofs.settle_stage.Goals as goal

pub returns-in-Some : goal.returns-in-Some
returns-in-Some c =
    ap (λ (v : Verdict). answer_with v c.args.row.now) c.fault.ensures
    ∙ is_12 c.args.counts c.args.code.now _ c.args.row.now _ c.order_gates.ensures _
    c.in-Some.is

pub returns-then-row-counts : goal.returns-then-row-counts
returns-then-row-counts c =
    ap (λ (v : Verdict). answer_with v c.args.row.now) c.fault-then-row-counts.ensures
    ∙ is_16 c.args.counts c.args.code.now _ c.args.row.now _
    c.order_gates.ensures c.in_default.is c.if-row-counts.true

pub returns-in-Some-illegal_input : goal.returns-in-Some-illegal_input
returns-in-Some-illegal_input c =
    ap (λ (v : Verdict). answer_with v c.args.row.now) c.fault-in-Some-illegal_input.ensures
    ∙ is_17 c.args.counts c.args.code.now _ c.args.row.now _ c.order_gates.ensures c.in_default.is c.if-row-counts.false _
    c.illegal_input.ensures _ c.in-Some-illegal_input.is

pub settle_row-requires : goal.settle_row-requires
settle_row-requires c =
    let l = c.order_gates.ensures in
    let e = c.in_default.is in (
      l.loaded,
      l.in_order e,
      c.if-row-counts.false,
      rails_bits c.args.counts c.args.code.now _ c.args.row.now _ l e c.if-row-counts.false _ c.illegal_input.ensures
          c.in_default-illegal_input.is,
    )

pub returns : goal.returns
returns c =
    ap (λ (v : Verdict). answer_with v c.settle_row.new.row) c.accepted.ensures
    ∙ is-0 c.args.counts c.args.code.now _ c.args.row.now _ c.order_gates.ensures c.in_default.is c.if-row-counts.false _
    c.illegal_input.ensures c.in_default-illegal_input.is _ c.settle_row.ensures
