-- The proof of the cycle of calls {visit}. The loop's invariant: what the first pins come from is visited. The measure is how many gates are left.
-- Assumes nothing.
use Rattle.verdict.specs.Levels.{sum}
use Rattle.circuit_order.specs.Marks.{Visited, FirstPins}
use Rattle.circuit_order.proofs.+visit.Given as goal

abbrev pub decreases-visit : goal.decreases-visit
decreases-visit l = sum l.left.now

abbrev pub invariant-loop-i : goal.invariant-loop-i
invariant-loop-i l = Visited l.counts l.code l.initial.left l.left (FirstPins l.counts l.code l.k l.i)
