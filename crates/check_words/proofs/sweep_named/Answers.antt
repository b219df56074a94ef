-- `check_words::sweep_named` meets its contract. The loop's invariant: the checks before check i find nothing. Assumes nothing.
use native.Mathlib.Omega.{arith}
use mathlib.Core.Path.{sym, ap, subst, ◌∙◌}
use Rattle.circuit.specs.Stage.{stage_in}
use Rattle.circuit.specs.Reference.{reference_in}
use Rattle.check_word.specs.declared.Sweep.{Sweep}
use Rattle.lane_screen.specs.Suspects.{Clean}
use Rattle.check_words.specs.Sweeps.{swept}
use Rattle.verdict.proofs.HandedOn.{handed_on}
use Rattle.check_words.proofs.Sweeping.{passed_on, found_at, mask_clean, enough_passed}
use Rattle.check_words.proofs.sweep_named.Goals as goal

pub sweep_check-requires : goal.sweep_check-requires
sweep_check-requires c =
    let s = stage_in c.args.counts c.args.code.now in
    let r = reference_in c.args.sizes c.args.reference.now in
    let clean = mask_clean c.args.order s r c.args.masks c.requires.2 c.sweep_at-which.result in
    (c.requires.0, c.requires.1, subst (Clean c.sweep_at-which.result s r) (sym c.mask_of-mask.ensures.value) clean)

pub returns-in_err-sweep_check : goal.returns-in_err-sweep_check
returns-in_err-sweep_check c =
    let s = stage_in c.args.counts c.args.code.now in
    let r = reference_in c.args.sizes c.args.reference.now in
    let loop = c.loop-i in
    let few = c.sweep_count-count.ensures.few in
    handed_on _ _ c.from_residual.ensures.1 ∙ found_at c.args.order s r loop.i _ (omega arith) loop.invariant
    (sym c.in_err-sweep_check.was ∙ c.sweep_check.ensures ∙ ap (λ (w : Sweep). swept w c.args.order s r) c.sweep_at-which.ensures)

pub loop-i-preserved : goal.loop-i-preserved
loop-i-preserved c =
    let s = stage_in c.args.counts c.args.code.now in
    let r = reference_in c.args.sizes c.args.reference.now in
    let loop = c.loop-i in
    let few = c.sweep_count-count.ensures.few in
    let passed = sym c.in_ok-sweep_check.was ∙ c.sweep_check.ensures ∙ ap (λ (w : Sweep). swept w c.args.order s r) c.sweep_at-which.ensures in
    passed_on c.args.order s r loop.i (omega arith) loop.invariant passed

pub returns : goal.returns
returns c =
    let loop = c.loop-i in
    enough_passed c.args.order c.requires.0 _ loop.i c.sweep_count-count.ensures (omega arith) loop.invariant
