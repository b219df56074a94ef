-- `lane_complete::missing_words` meets its contract. The loop's invariant: in a word that is not named, with one of the first i inputs NULL not all
-- outputs are DATA. Assumes nothing.
use native.Mathlib.Omega.{arith}
use mathlib.Core.Path.{refl, ◌∙◌}
use Rattle.runs.specs.Pair.{AllData}
use Rattle.circuit.specs.Stage.{stage_in}
use Rattle.circuit.specs.Rows.{row_size}
use Rattle.lane_settle.specs.Block.{net_in}
use Rattle.lane_screen.proofs.Gathering.{gathered_more}
use Rattle.lane_screen.proofs.Tests.{finds_no_missing}
use Rattle.lane_complete.specs.Rows.{missing_in}
use Rattle.lane_complete.proofs.Inputs.{all_low_holds}
use Rattle.lane_complete.proofs.missing_words.Goals as goal

pub loop-i-init : goal.loop-i-init
loop-i-init c =
    let within = c.requires.0.within in
    (refl, (all_low_holds c.args.counts row_size (omega (arith, within.inputs_in, within.gates_in_holds))).ground, λ j d e k h. absurd (omega arith))

pub loop-i-preserved : goal.loop-i-preserved
loop-i-preserved c =
    let l = c.loop-i in
    let found = c.without_input-words in (
      found.ensures.long ∙ l.invariant.0,
      found.ensures.ground,
      gathered_more (λ j k. ¬ (AllData (net_in c.args.counts c.args.code.now) (missing_in c.args.counts c.args.code.now c.args.b k j))) _ l.i _ l.invariant.2
          found.ensures.words,
    )

pub returns : goal.returns
returns c reference j d e =
    let l = c.loop-i in
    finds_no_missing (stage_in c.args.counts c.args.code.now) reference _ (λ k h. l.invariant.2 j d e k (omega arith))
