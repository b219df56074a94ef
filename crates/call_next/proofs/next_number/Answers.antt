-- `family::next_number` meets its contract. The loop's invariant: the numbers before z have loops. Assumes nothing.
use native.Mathlib.Omega.{arith}
use Rattle.call_next.proofs.Searching.{search_passed, search_found, search_end}
use Rattle.call_next.proofs.next_number.Goals as goal

pub returns-then-loop_free : goal.returns-then-loop_free
returns-then-loop_free c =
    let a = c.args in
    let l = c.loop-z in
    search_found a.inputs a.gates a.from c.stages-count.result l.z _
    c.requires.0 l.invariant
    c.loop-z-test.true c.loop_free.ensures c.if-loop_free.true

pub loop-z-preserved : goal.loop-z-preserved
loop-z-preserved c =
    let a = c.args in
    let l = c.loop-z in
    search_passed a.inputs a.gates a.from c.stages-count.result l.z _ l.invariant c.loop-z-test.true
    c.loop_free.ensures
    c.if-loop_free.false

pub returns : goal.returns
returns c =
    let a = c.args in
    let l = c.loop-z in
    search_end a.inputs a.gates a.from c.stages-count.result l.z l.invariant (omega arith)
