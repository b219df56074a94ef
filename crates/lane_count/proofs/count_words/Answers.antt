-- `lane_count::count_words` meets its contract. The loop's invariant: it is known how many gates are high in the words of the blocks before b.
-- Assumes nothing.
use native.Mathlib.Omega.{arith}
use mathlib.Core.Path.{sym}
use Rattle.lane_count.proofs.Words.{blocks_start, blocks_more}
use Rattle.lane_count.proofs.count_words.Goals as goal

pub block_count-count-requires : goal.block_count-count-requires
block_count-count-requires c = c.requires.0.within.inputs_in

pub loop-b-init : goal.loop-b-init
loop-b-init c = blocks_start _ _ _ c.requires.0.within

pub slice_bounds-settle_block-end : goal.slice_bounds-settle_block-end
slice_bounds-settle_block-end c = sym c.loop-b.invariant.row_long

pub settle_block-requires : goal.settle_block-requires
settle_block-requires c =
    let i = c.loop-b.invariant in
    let s = c.requires.0.within in
    (c.requires.0, c.requires.1, omega (arith, i.row_long, s.inputs_in, s.gates_in_holds), i.ground)

pub overflow_mul-counts : goal.overflow_mul-counts
overflow_mul-counts c = omega (arith, c.requires.0.within.inputs_in)

pub count_high-digits-requires : goal.count_high-digits-requires
count_high-digits-requires c =
    let s = c.requires.0.within in
    let i = c.loop-b.invariant in
    (omega (arith, c.settle_block.ensures.long, i.row_long, s.inputs_in, s.gates_in_holds), omega (arith, s.gates_in_holds))

pub slice_bounds-write_counters-end : goal.slice_bounds-write_counters-end
slice_bounds-write_counters-end c = sym c.count_high-digits.ensures.0

pub write_counters-requires : goal.write_counters-requires
write_counters-requires c =
    let l = c.loop-b in
    let few = c.block_count-count.ensures.0 in
    (omega (arith, c.count_high-digits.ensures.0), omega (arith, c.requires.2, l.invariant.same_long, few))

pub loop-b-preserved : goal.loop-b-preserved
loop-b-preserved c =
    let l = c.loop-b in
    let s = c.requires.0.within in
    let settled = c.settle_block.ensures in
    let counted = c.count_high-digits in
    let written = c.write_counters.ensures in
    blocks_more c.args.counts c.args.code.now _ l.high l.row l.b l.invariant _ _ counted.result
    (omega (arith, l.invariant.row_long, s.inputs_in, s.gates_in_holds)) settled.long settled.rest counted.ensures.1
    (written.long, written.written, written.before)

pub shape_of-high : goal.shape_of-high
shape_of-high c = c.loop-b.invariant.same_long

pub returns : goal.returns
returns c =
    let l = c.loop-b in
    record {
      long = l.invariant.same_long;
      high = record { at = λ w h. l.invariant.high_to w (omega (arith, c.block_count-count.ensures.1)) };
    }
