-- `call_play::play_stage` meets its contract. Assumes nothing.
use native.Mathlib.Omega.{arith}
use mathlib.Core.Path.{refl, ap}
use Rattle.verdict.specs.declared.Verdict.{Verdict}
use Rattle.run_spec.specs.declared.PlayAnswer.{PlayAnswer}
use Rattle.call_play.proofs.Calls.{left_by}
use Rattle.call_play.proofs.play_stage.Goals as goal

pub word_of-w-requires : goal.word_of-w-requires
word_of-w-requires c = c.requires.0.within.inputs_in

pub play_word-steps-requires : goal.play_word-steps-requires
play_word-steps-requires c = (c.requires.0, refl)

pub slice_bounds-own-end : goal.slice_bounds-own-end
slice_bounds-own-end c = omega (arith, c.requires.0.within.inputs_in, c.requires.0.within.gates_in_holds)

pub returns : goal.returns
returns c =
    left_by c.args.order c.args.counts c.args.code.now c.args.name c.args.fall c.args.list.now _ c.word_of-w.ensures _ _ c.play_word-steps.ensures _
    c.copy_from_slice.ensures.after _ (ap {B = PlayAnswer} (λ (v : Verdict). record { verdict = v; steps = c.play_word-steps.result }) c.accepted.ensures)
