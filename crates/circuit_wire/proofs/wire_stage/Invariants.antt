-- `circuit_wire::wire_stage` meets its contract. The loop's invariant: the numbers before i are those of the wired stage. Assumes nothing.
use Rattle.circuit_wire.specs.Wire.{WiredTo}
use Rattle.circuit_wire.proofs.wire_stage.Given as goal

abbrev pub invariant-loop-i : goal.invariant-loop-i
invariant-loop-i l = WiredTo l.nets l.counts l.raw l.initial.code l.code l.i
