-- `circuit_place::place_elements` meets its contract. The loop's invariant: the C-elements that have a place come after those at their pins.
-- The measure is how many can still take one. Assumes nothing.
use Prim.Native.Nat.{◌-◌}
use mathlib.Core.Path.{◌≡◌}
use lib.ListN.{length}
use Rattle.circuit_place.specs.Placing.{Placing}
use Rattle.circuit_place.proofs.place_elements.Given as goal

abbrev pub invariant-loop-placed : goal.invariant-loop-placed
invariant-loop-placed l = Placing l.initial.code l.code l.first l.count l.placed × (length l.code ≡ length l.initial.code)

abbrev pub decreases-loop-placed : goal.decreases-loop-placed
decreases-loop-placed l = l.count - l.placed
