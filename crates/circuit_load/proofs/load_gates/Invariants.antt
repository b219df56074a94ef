-- `circuit_load::load_gates` meets its contract. The loop's invariant: the gates before k are written. Assumes nothing.
use Prim.Native.Nat.{◌*◌}
use mathlib.Core.Path.{◌≡◌}
use lib.ListN.{length}
use Rattle.circuit_load.specs.Load.{gates_number, WrittenTo}
use Rattle.circuit_load.proofs.load_gates.Given as goal

abbrev pub invariant-loop-k : goal.invariant-loop-k
invariant-loop-k l = (length l.code ≡ length l.initial.code) × WrittenTo (gates_number l.s l.places l.ground) l.code (8 * l.k)
