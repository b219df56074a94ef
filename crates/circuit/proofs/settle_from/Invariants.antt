-- `circuit::settle_from` meets its contract. The loop's invariant: the rails stay, and the gates before place i of the order have
-- their levels. Assumes nothing.
use Rattle.verdict.specs.Levels.{level_holding}
use Rattle.circuit.specs.Stage.{stage_gates}
use Rattle.circuit.proofs.Settling.{SettlingTo}
use Rattle.circuit.proofs.settle_from.Given as goal

abbrev pub invariant-loop-i : goal.invariant-loop-i
invariant-loop-i l = SettlingTo l.counts l.code (level_holding l.held (stage_gates l.counts l.code)) l.initial.row l.row l.i
