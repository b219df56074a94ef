-- `call_draw::put_outputs` meets its contract. The loop's invariant: the signals before signal x are passed. Assumes nothing.
use Rattle.std.proofs.Common.{arith}
use Rattle.call_draw.proofs.Turns.{outputs_start, outputs_room, outputs_put_holds, outputs_passed, outputs_done}
use Rattle.call_draw.proofs.put_outputs.Goals as goal
use Rattle.call_draw.proofs.put_outputs.Goals.{then-marks-x-eq0, else-marks-x-eq0}

pub loop-x-init : goal.loop-x-init
loop-x-init c = outputs_start c.requires.2

pub put_reference_output-requires : goal.put_reference_output-requires
put_reference_output-requires c =
    outputs_room c.loop-x.invariant c.loop-x-test.true c.if-marks-x-eq0.true

pub overflow_add-at : goal.overflow_add-at
overflow_add-at c =
    omega (arith, outputs_room c.loop-x.invariant c.loop-x-test.true c.if-marks-x-eq0.true)

pub loop-x-preserved : goal.loop-x-preserved
loop-x-preserved c =
    let t = c.loop-x.invariant in
    let l = c.loop-x-test.true in
    elim c.if-marks-x-eq0.branch [
      | then-marks-x-eq0 w ↦ outputs_put_holds t l w.if-marks-x-eq0.true w.put_reference_output.ensures w.buffer-is w.at-is
      | else-marks-x-eq0 w ↦ outputs_passed t l w.if-marks-x-eq0.false w.buffer-is w.at-is
    ]

pub shape_of-buffer : goal.shape_of-buffer
shape_of-buffer c = c.loop-x.invariant.items.left.long

pub returns : goal.returns
returns c = let d = outputs_done c.loop-x.invariant (omega arith) in record { end = d.0; put = d.1 }
