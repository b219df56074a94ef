-- `circuit_wire::resolve_rails` meets its contract. The loop's invariant: the nets before row i have the net that they come from. Assumes nothing.
use Rattle.circuit_wire.specs.Wire.{ResolvedTo}
use Rattle.circuit_wire.proofs.resolve_rails.Given as goal

abbrev pub invariant-loop-i : goal.invariant-loop-i
invariant-loop-i l = ResolvedTo l.initial.nets l.nets l.first l.registers l.i
