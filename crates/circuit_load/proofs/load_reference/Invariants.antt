-- `circuit_load::load_reference` meets its contract. The loop's invariant: the numbers before i are written. Assumes nothing.
use mathlib.Core.Path.{◌≡◌}
use lib.ListN.{length}
use Rattle.circuit_load.specs.Load.{reference_number}
use Rattle.circuit_load.specs.Load.{WrittenTo}
use Rattle.circuit_load.proofs.load_reference.Given as goal

abbrev pub invariant-loop-i : goal.invariant-loop-i
invariant-loop-i l = (length l.reference ≡ length l.initial.reference) × WrittenTo (reference_number l.most l.s l.places l.sizes) l.reference l.i
