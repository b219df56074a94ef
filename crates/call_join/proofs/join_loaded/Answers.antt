-- `call_join::join_loaded` meets its contract: each way out is a step of the checks 22, 23 and 24. Assumes nothing.
use native.Mathlib.Omega.{arith}
use mathlib.Core.Path.{sym, ap, ◌∙◌}
use Rattle.verdict.specs.declared.Verdict.{Verdict}
use Rattle.call_join.specs.Steps.{answer_with}
use mathlib.Core.Logic.{inl, inr}
use lib.ListN.{length}
use Rattle.call_join.proofs.Joining.{leaves_refused, seam_22, leaves_uncared, leaves_short, leaves_written}
use Rattle.call_join.proofs.join_loaded.Goals as goal

pub uncared-requires : goal.uncared-requires
uncared-requires c =
    (c.requires.stage1_loaded, c.requires.reference1_loaded, c.requires.stage2_loaded, omega (arith, c.requires.outputs, c.if-counts1-counts2.false))

pub stage_length-stage_count-requires : goal.stage_length-stage_count-requires
stage_length-stage_count-requires c = (c.requires.stage1_loaded.within, c.requires.stage2_loaded.within, c.requires.few_words)

pub reference_length-reference_count-requires : goal.reference_length-reference_count-requires
reference_length-reference_count-requires c = (c.requires.reference1_loaded.within, c.requires.reference2_loaded.within)

pub put_stage-requires : goal.put_stage-requires
put_stage-requires c = (
  c.requires.stage1_loaded,
  c.requires.stage2_loaded,
  omega (arith, c.if-counts1-counts2.false),
  omega (
    arith,
    c.stage_length-stage_count.ensures c.args.code1.now c.args.code2.now,
    c.if-stage_out-stage_count.false,
  ),
)

pub put_reference-requires : goal.put_reference-requires
put_reference-requires c = (
  c.requires.reference1_loaded,
  c.requires.reference2_loaded,
  omega (arith, c.if-counts1-counts2.false, c.requires.outputs, c.requires.inputs),
  omega (
    arith,
    c.reference_length-reference_count.ensures c.args.reference1.now c.args.reference2.now,
    c.if-reference_out-reference_count.false,
  ),
)

pub returns-then-counts1-counts2 : goal.returns-then-counts1-counts2
returns-then-counts1-counts2 c =
    let a = c.args in
    λ one two held. leaves_refused _ _ _ _ (seam_22 a.order a.counts a.code1.now a.reference1.now a.code2.now a.reference2.now c.requires one two held _ _ c.if-counts1-counts2.true)
    (λ q. omega arith) c.refusal.ensures

pub returns-in-Err : goal.returns-in-Err
returns-in-Err c =
    let a = c.args in
    λ one two held. leaves_uncared a.order a.counts a.code1.now a.reference1.now a.code2.now a.reference2.now c.requires one two held _ _
    (omega (arith, c.if-counts1-counts2.false)) _ (sym c.in-Err.is ∙ c.uncared.ensures) _ _ c.refusal-in-Err.ensures

pub returns-then-stage_out-stage_count : goal.returns-then-stage_out-stage_count
returns-then-stage_out-stage_count c =
    let a = c.args in
    λ one two held. leaves_short a.order a.counts a.code1.now a.reference1.now a.code2.now a.reference2.now c.requires one two held (length a.stage_out.now) (length a.reference_out.now)
    (omega (arith, c.if-counts1-counts2.false))
    (sym c.in_default.is ∙ c.uncared.ensures)
    (inl (omega (arith, c.stage_length-stage_count.ensures a.code1.now a.code2.now, c.if-stage_out-stage_count.true))) _ _
    (c.refusal-then-stage_out-stage_count.ensures ∙ ap (λ (v : Verdict). answer_with v 0 0) c.fault.ensures)

pub returns-then-reference_out-reference_count : goal.returns-then-reference_out-reference_count
returns-then-reference_out-reference_count c =
    let a = c.args in
    λ one two held. leaves_short a.order a.counts a.code1.now a.reference1.now a.code2.now a.reference2.now c.requires one two held (length a.stage_out.now) (length a.reference_out.now)
    (omega (arith, c.if-counts1-counts2.false))
    (sym c.in_default.is ∙ c.uncared.ensures)
    (inr (omega (arith, c.reference_length-reference_count.ensures a.reference1.now a.reference2.now, c.if-reference_out-reference_count.true))) _ _
    (c.refusal-then-reference_out-reference_count.ensures ∙ ap (λ (v : Verdict). answer_with v 0 0) c.fault-then-reference_out-reference_count.ensures)

pub returns : goal.returns
returns c =
    let a = c.args in
    let m = c.stage_length-stage_count.ensures a.code1.now a.code2.now in
    let k = c.reference_length-reference_count.ensures a.reference1.now a.reference2.now in
    let l = c.if-stage_out-stage_count.false in
    let l' = c.if-reference_out-reference_count.false in
    λ one two held. leaves_written a.order a.counts a.code1.now a.reference1.now a.code2.now a.reference2.now c.requires one two held (length a.stage_out.now) (length a.reference_out.now)
    (omega (arith, c.if-counts1-counts2.false))
    (sym c.in_default.is
    ∙ c.uncared.ensures)
    (omega (arith, m, l)) (omega (arith, k, l')) _ c.accepted.ensures m k
    c.put_stage.ensures (omega (arith, m, l)) c.put_reference.ensures (omega (arith, k, l'))
