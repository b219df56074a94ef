-- `circuit_order::place_all` meets its contract. The loop's invariant: the gates before k are placed. Assumes nothing.
use Rattle.circuit_order.proofs.After.{PlacedTo}
use Rattle.circuit_order.proofs.place_all.Given as goal

abbrev pub invariant-loop-k : goal.invariant-loop-k
invariant-loop-k l = PlacedTo l.counts l.initial.code l.code l.waiting l.placed l.k
