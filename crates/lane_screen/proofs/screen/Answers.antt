-- `lane_screen::screen` meets its contract. The loop's invariant: what the masks do not name has no fault, where at first they
-- name all words; and the gates of the blocks before b are noted. Assumes nothing.
use Prim.Native.Nat.{◌*◌, ◌^◌, ◌≤◌}
use native.Mathlib.Omega.{arith}
use mathlib.Core.Path.{refl, ◌∙◌}
use Rattle.circuit.specs.Stage.{stage_in}
use Rattle.circuit.specs.Reference.{reference_in}
use Rattle.lane_rise.proofs.Noting.{noted_start, noted_more, noted_skip, noted_all}
use Rattle.circuit.proofs.Settling.{length_stage_gates, low_row}
use Rattle.lane_screen.proofs.Blocks.{fall_complete, fall_observable}
use Rattle.lane_screen.proofs.Naming.{all_clean_start, all_clean_more}
use Rattle.lane_screen.proofs.screen.Goals as goal

pub loop-b-init : goal.loop-b-init
loop-b-init c = (
  record { row_long = refl; ack_long = refl; values_long = refl; ground = (low_row c.args.counts c.requires.stage.within).ground },
  all_clean_start (stage_in c.args.counts c.args.code.now) (reference_in c.args.sizes c.args.reference.now) 16,
  noted_start c.args.counts c.args.code.now c.word_masks-words.result,
)

pub loop-b-preserved-then-cared-eq0 : goal.loop-b-preserved-then-cared-eq0
loop-b-preserved-then-cared-eq0 c =
    let masks = c.word_masks-words in
    let l = c.loop-b in
    (l.invariant.0, l.invariant.1, noted_skip c.args.counts c.args.code.now masks.result masks.ensures l.rose l.b l.invariant.2 c.if-cared-eq0.true)

pub loop-b-preserved : goal.loop-b-preserved
loop-b-preserved c =
    let masks = c.word_masks-words in
    let l = c.loop-b in
    let up = c.rise_block-found in
    let down = c.fall_block in
    let code = c.args.code.now in
    let s = stage_in c.args.counts code in
    let r = reference_in c.args.sizes c.args.reference.now in
    let space = up.ensures.space in
    let words = down.ensures.words l.b up.ensures.rest in (
      record { row_long = space.row_long; ack_long = down.ensures.long ∙ space.ack_long; values_long = space.values_long; ground = space.ground },
      all_clean_more s r l.wrong l.rise l.fall l.b up.result down.result l.invariant.1 up.ensures.clean
          (fall_complete c.args.counts code c.requires.ordered r l.b down.result words)
          (fall_observable c.args.counts code c.requires.ordered r l.b down.result words),
      noted_more c.args.counts code masks.result masks.ensures l.rose l.b l.invariant.2 _ _ up.ensures.rest c.note.ensures,
    )

pub returns-clause-low : goal.returns-clause-low
returns-clause-low c =
    let masks = c.word_masks-words in
    let l = c.loop-b in
    let code = c.args.code.now in
    let all : 2 ^ c.args.counts.inputs ≤ 64 * l.b = omega (arith, c.block_count-count.ensures.1) in
    c.never_risen-low.ensures (stage_in c.args.counts code) (length_stage_gates c.args.counts code)
    (noted_all c.args.counts code masks.result masks.ensures l.rose l.b l.invariant.2 all)
