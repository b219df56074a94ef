-- `circuit_order::least_loop` meets its contract. The loop's invariant: no gate before g reaches itself, and those from g on are left. Assumes nothing.
use Rattle.verdict.specs.Loops.{reaches_itself}
use Rattle.verdict.proofs.Least.{SoughtTo}
use Rattle.circuit.specs.Stage.{stage_gates}
use Rattle.circuit_order.specs.Marks.{From}
use Rattle.circuit_order.proofs.least_loop.Given as goal

abbrev pub invariant-loop-g : goal.invariant-loop-g
invariant-loop-g l = From l.counts l.code l.later l.g × SoughtTo (reaches_itself l.counts.inputs (stage_gates l.counts l.code)) l.counts.gates l.g
