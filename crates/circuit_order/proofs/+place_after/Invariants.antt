-- The proof of the cycle of calls {place_after}. The loop's invariant: the nets at the first pins of gate k wait no more, and what had a place keeps it. The
-- measure is the depth. Assumes nothing.
use Rattle.circuit_order.specs.Placing.{AfterPins}
use Rattle.circuit_order.proofs.+place_after.Given as goal

abbrev pub decreases-place_after : goal.decreases-place_after
decreases-place_after l = l.depth

abbrev pub invariant-loop-pin : goal.invariant-loop-pin
invariant-loop-pin l =
    AfterPins l.counts l.initial.code l.code l.initial.waiting l.waiting l.placed l.k l.pin
