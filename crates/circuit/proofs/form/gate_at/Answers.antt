-- `circuit::form::gate_at` meets its contract: what stands in the order is a gate. Assumes nothing.
use Prim.Native.Nat.{◌+◌, ◌*◌}
use native.Mathlib.Omega.{arith}
use mathlib.Core.Path.{refl}
use Rattle.circuit.proofs.Settling.{order_gate}
use Rattle.circuit.proofs.form.gate_at.Goals as goal

pub overflow_cast-result : goal.overflow_cast-result
overflow_cast-result c = omega (arith, c.shared_slice_known-1.given (8 * c.args.i + 5))

pub returns : goal.returns
returns c = record { is = refl; there = order_gate c.args.counts c.args.code.now c.requires.1 c.args.i c.requires.2 }
