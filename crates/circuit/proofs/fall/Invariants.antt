-- `circuit::fall` meets its contract. The loop's invariant: the rails stay, the gates before place i of the order have their levels, and the
-- others the rest's. Assumes nothing.
use Rattle.circuit.proofs.Falling.{FallingTo}
use Rattle.circuit.proofs.fall.Given as goal

abbrev pub invariant-loop-i : goal.invariant-loop-i
invariant-loop-i l = FallingTo l.counts l.code l.kept l.initial.row l.row l.i
