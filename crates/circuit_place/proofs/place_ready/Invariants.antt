-- `circuit_place::place_ready` meets its contract. The loop's invariant: the nets before i have had their turn. Assumes nothing.
use mathlib.Core.Path.{◌≡◌}
use lib.ListN.{length}
use Rattle.circuit_place.proofs.Placing.{Turned}
use Rattle.circuit_place.proofs.place_ready.Given as goal

abbrev pub invariant-loop-i : goal.invariant-loop-i
invariant-loop-i l = (length l.code ≡ length l.initial.code) × Turned l.initial.code l.code l.first l.count l.taken l.placed l.i
