-- `call_witness::witness` meets its contract. Assumes nothing.
use mathlib.Core.Path.{refl, sym, ◌∙◌}
use Rattle.call_witness.proofs.Files.{showable, shown_demand, none_demand}
use Rattle.call_witness.proofs.witness.Goals as goal

pub witness_stage-requires : goal.witness_stage-requires
witness_stage-requires c =
    showable c.args.order c.args.stage.now c.args.reference.now _ c.verdict_on-verdict.ensures (sym c.has_run.ensures ∙ c.if-has_run.true)

pub returns-then-has_run : goal.returns-then-has_run
returns-then-has_run c =
    shown_demand c.args.order c.args.stage.now c.args.reference.now _ c.verdict_on-verdict.ensures c.args.asked _ _ _ c.witness_stage.ensures

pub returns : goal.returns
returns c =
    none_demand c.args.order c.args.stage.now c.args.reference.now _ c.verdict_on-verdict.ensures c.args.asked _ (sym c.has_run.ensures ∙ c.if-has_run.false) _ refl
