-- `circuit_wire::resolve` meets its contract. The loop's invariant: what is left to follow leads from x to where all leads from the net. Assumes nothing.
use Prim.Native.Nat.{◌-◌}
use mathlib.Core.Path.{◌≡◌}
use Rattle.wiring_spec.specs.Wires.{times}
use Rattle.circuit_wire.specs.Wire.{wire_in}
use Rattle.circuit_wire.proofs.resolve.Given as goal

abbrev pub invariant-loop-step : goal.invariant-loop-step
invariant-loop-step l = times (l.registers - l._step) (wire_in l.nets l.first) l.x ≡ times l.registers (wire_in l.nets l.first) l.net
