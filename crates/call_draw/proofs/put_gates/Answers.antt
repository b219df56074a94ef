-- `call_draw::put_gates` meets its contract. The loop's invariant: the gates before gate k are drawn, put and marked. Assumes nothing.
use Rattle.std.proofs.Common.{arith}
use Rattle.write_command.proofs.Items.{items_long}
use Rattle.call_draw.proofs.Turns.{gates_start, marks_start, gates_room, gates_turn, marks_turn, gates_put, gates_marked}
use Rattle.call_draw.proofs.put_gates.Goals as goal

pub loop-k-init : goal.loop-k-init
loop-k-init c = (gates_start c.requires.3, marks_start _)

pub mark_gate-requires : goal.mark_gate-requires
mark_gate-requires c =
    let d = c.draw_gate-gate.ensures in
    let t = c.loop-k.invariant.1 in
    let p = c.requires.2 in
    (omega (arith, d.first_in, t.long), λ other. omega (arith, d.second_in other, t.long))

pub put_reference_gate-requires : goal.put_reference_gate-requires
put_reference_gate-requires c =
    gates_room c.loop-k.invariant.0 c.loop-k-test.true

pub loop-k-preserved : goal.loop-k-preserved
loop-k-preserved c =
    let t = c.loop-k.invariant in
    let l = c.loop-k-test.true in
    let d = c.draw_gate-gate in (
      gates_turn t.0 d.result l d.ensures c.put_reference_gate.ensures,
      marks_turn t.1 d.result l d.ensures c.mark_gate.ensures,
    )

pub shape_of-marks : goal.shape_of-marks
shape_of-marks c = c.loop-k.invariant.1.long

pub shape_of-buffer : goal.shape_of-buffer
shape_of-buffer c = items_long c.loop-k.invariant.0.items

pub returns : goal.returns
returns c = let t = c.loop-k.invariant in record { put = gates_put t.0 (omega arith); marks = gates_marked t.1 (omega arith) }
