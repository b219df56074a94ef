-- `call_draw::mark_gate` meets its contract. Assumes nothing.
use Rattle.std.proofs.Common.{arith, length-set, eq-eqb, ne_eqb}
use Rattle.make_spec.specs.Marks.{marked}
use Rattle.call_draw.proofs.mark_gate.Goals as goal

pub bounds-marks-second : goal.bounds-marks-second
bounds-marks-second c = let r = c.requires.1 c.if-gate-ne1.true in simp length-set (omega arith)

pub returns-then-gate-ne1 : goal.returns-then-gate-ne1
unfolding marked
returns-then-gate-ne1 c = rw (ne_eqb c.args.gate.operation 1 c.if-gate-ne1.true)

pub returns-else-gate-ne1 : goal.returns-else-gate-ne1
unfolding marked
returns-else-gate-ne1 c = rw (eq-eqb c.args.gate.operation 1 c.if-gate-ne1.false)
