-- `lane_screen::mark_gates` meets its contract. The loop's invariant: the marks that the gates below k add are at nets that are acknowledged. Assumes
-- nothing.
use Rattle.lane_screen.proofs.ByNet.{GatesTo}
use Rattle.lane_screen.proofs.mark_gates.Given as goal

abbrev pub invariant-loop-k : goal.invariant-loop-k
invariant-loop-k l = GatesTo l.falls l.counts l.code l.row l.initial.ack l.ack
