-- `call_join::join` meets its contract: the parts' verdicts first, then the join of what the check left of both. Assumes nothing.
use native.Mathlib.Omega.{arith}
use mathlib.Core.Path.{refl, sym, ap, subst, ◌∙◌}
use Rattle.netlist.specs.declared.Limits.{Limits}
use Rattle.netlist.specs.Reading.{stage_limits, reference_limits, NoMore}
use Rattle.netlist.proofs.Bounds.{part_stage_less, part_reference_less}
use Rattle.check_files.specs.Judgement.{verdict_of}
use Rattle.check_spec.specs.Content.{part_files}
use Rattle.call_join.proofs.Joining.{judged_by, accepts_zero, part_held, few_care, first_refused, second_refused, both_accepted, demanded}
use Rattle.call_join.proofs.join.Goals as goal

pub check_loading-requires : goal.check_loading-requires
check_loading-requires c = (
  subst (λ (m : Limits). NoMore m stage_limits) (sym c.part_stage_limits-most.ensures) part_stage_less,
  subst (λ (m : Limits). NoMore m reference_limits) (sym c.part_reference_limits-reference_most.ensures) part_reference_less,
  omega arith,
  omega arith,
)

pub check_loading-requires-2 : goal.check_loading-requires-2
check_loading-requires-2 c = (
  subst (λ (m : Limits). NoMore m stage_limits) (sym c.part_stage_limits-most.ensures) part_stage_less,
  subst (λ (m : Limits). NoMore m reference_limits) (sym c.part_reference_limits-reference_most.ensures) part_reference_less,
  omega arith,
  omega arith,
)

pub overflow_add-v : goal.overflow_add-v
overflow_add-v c = omega (arith, (c.check_loading-2.ensures.refuses _ c.in-Err-check_loading.is).1)

pub join_loaded-requires : goal.join_loaded-requires
join_loaded-requires c =
    let one = (c.check_loading.ensures.loaded _ c.in-Ok.is).both in
    let two = (c.check_loading-2.ensures.loaded _ c.in-Ok-check_loading.is).both in
    record {
      stage1_loaded = one.stage;
      reference1_loaded = one.answers;
      stage2_loaded = two.stage;
      reference2_loaded = two.answers;
      few_words = few_care one.stage c.code1-2-1.given (omega arith);
      outputs = sym one.outputs;
      inputs = sym two.inputs;
    }

pub returns-in-Err : goal.returns-in-Err
returns-in-Err c =
    let a = c.args in
    let is = c.in-Err.is in
    let v = judged_by a.order _ _ _ _ _ (sym (ap verdict_of is) ∙ c.check_loading.ensures.verdict_is) c.part_stage_limits-most.ensures c.part_reference_limits-reference_most.ensures in
    demanded a.order a.stage1.now a.reference1.now a.stage2.now a.reference2.now
    (first_refused a.order (part_files a.stage1.now a.reference1.now) (part_files a.stage2.now a.reference2.now) _ _ _ v (λ q. omega (arith, (c.check_loading.ensures.refuses _ is).0)) c.refusal.ensures)

pub returns-in-Err-check_loading : goal.returns-in-Err-check_loading
returns-in-Err-check_loading c =
    let a = c.args in
    let m = c.part_stage_limits-most.ensures in
    let n = c.part_reference_limits-reference_most.ensures in
    let is = c.in-Err-check_loading.is in
    let v = judged_by a.order _ _ _ _ _ (sym (ap verdict_of c.in-Ok.is) ∙ c.check_loading.ensures.verdict_is) m n in
    let w = judged_by a.order _ _ _ _ _ (sym (ap verdict_of is) ∙ c.check_loading-2.ensures.verdict_is) m n in
    demanded a.order a.stage1.now a.reference1.now a.stage2.now a.reference2.now
    (second_refused a.order (part_files a.stage1.now a.reference1.now) (part_files a.stage2.now a.reference2.now) _ _ (accepts_zero v refl) _ w (λ q. omega (arith, (c.check_loading-2.ensures.refuses _ is).0)) c.refusal-in-Err-check_loading.ensures)

pub returns : goal.returns
returns c =
    let a = c.args in
    let m = c.part_stage_limits-most.ensures in
    let n = c.part_reference_limits-reference_most.ensures in
    let is = c.in-Ok.is in
    let it = c.in-Ok-check_loading.is in
    let v = judged_by a.order _ _ _ _ _ (sym (ap verdict_of is) ∙ c.check_loading.ensures.verdict_is) m n in
    let w = judged_by a.order _ _ _ _ _ (sym (ap verdict_of it) ∙ c.check_loading-2.ensures.verdict_is) m n in
    let p = part_held m n (c.check_loading.ensures.loaded _ is) in
    let q = part_held m n (c.check_loading-2.ensures.loaded _ it) in
    demanded a.order a.stage1.now a.reference1.now a.stage2.now a.reference2.now
    (both_accepted a.order (part_files a.stage1.now a.reference1.now) (part_files a.stage2.now a.reference2.now) _ _ (accepts_zero v refl) (accepts_zero w refl)
    (c.join_loaded.ensures (part_files a.stage1.now a.reference1.now) (part_files a.stage2.now a.reference2.now)
    (record { stage1_is = p.0; reference1_is = p.1; stage2_is = q.0; reference2_is = q.1 })))
