-- `call_row::settled_row` meets its contract. Assumes nothing.
use mathlib.Core.Path.{sym, ap, ◌∙◌}
use Rattle.verdict.specs.declared.Verdict.{Verdict}
use Rattle.verdict.specs.Verdicts.{answer_with}
use Rattle.circuit_load.proofs.Reading.{stage_held}
use Rattle.call_row.proofs.Cases.{by_refusal, by_stage, answered}
use Rattle.call_row.proofs.settled_row.Goals as goal

pub settle_stage-requires : goal.settle_stage-requires
settle_stage-requires c =
    let f = c.read_stage.ensures in
    (stage_held c.args.stage.now _ _ _ (sym c.in-Ok.is ∙ f.answered) f.loaded).3

pub returns-in-Err : goal.returns-in-Err
returns-in-Err c =
    let a = answered c.args.stage.now c.args.row.now _ _
    (ap (λ (v : Verdict). answer_with v c.args.row.now) c.unreadable.ensures ∙ by_refusal c.args.stage.now c.args.row.now _ _
    (sym c.in-Err.is ∙ c.read_stage.ensures.answered)) in
    record { verdict = a.0; row = a.1.0; demands = a.1.1 }

pub returns-in-Ok : goal.returns-in-Ok
returns-in-Ok c =
    let f = c.read_stage.ensures in
    let a = answered c.args.stage.now c.args.row.now _ _
    (by_stage c.args.stage.now c.args.row.now _ _
    (sym c.in-Ok.is ∙ f.answered) f.loaded _ _
    c.settle_stage.ensures) in
    record { verdict = a.0; row = a.1.0; demands = a.1.1 }
