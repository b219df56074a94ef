-- `call_join::uncared` meets its contract: without a care list every answer is cared for, and so it is where the masks name no word. Assumes nothing.
use native.Mathlib.Omega.{arith}
use mathlib.Core.Path.{refl}
use Rattle.circuit.specs.Stage.{stage_in}
use Rattle.circuit.specs.Reference.{reference_in}
use Rattle.call_join.proofs.Answers.{all_cared}
use Rattle.call_join.proofs.Masks.{none_uncared}
use Rattle.call_join.proofs.uncared.Goals as goal

pub returns-then-counts2-eq0 : goal.returns-then-counts2-eq0
returns-then-counts2-eq0 c =
    all_cared c.args.order c.args.counts1.inputs c.args.sizes1 c.args.reference1.now c.args.counts2 c.args.code2.now
    (omega (arith, c.if-counts2-eq0.true)) c.requires.3 _

pub returns-then-none_named : goal.returns-then-none_named
returns-then-none_named c =
    let masks = c.uncared_masks-masks in
    none_uncared c.args.counts1.inputs (reference_in c.args.sizes1 c.args.reference1.now) (stage_in c.args.counts2 c.args.code2.now)
    masks.result masks.ensures c.args.order (stage_in c.args.counts1 c.args.code1.now) refl (c.none_named.ensures c.if-none_named.true)

pub returns : goal.returns
returns c =
    c.uncared_listed.ensures (reference_in c.args.sizes1 c.args.reference1.now) (stage_in c.args.counts2 c.args.code2.now)
    c.uncared_masks-masks.ensures
