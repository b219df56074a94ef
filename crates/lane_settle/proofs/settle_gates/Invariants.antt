-- `lane_settle::settle_gates` meets its contract. The loop's invariant: the gates before place i of the order have their levels in all words, and what
-- they mark is marked. Assumes nothing.
use Rattle.lane_settle.proofs.Turns.{BlockTo}
use Rattle.lane_settle.proofs.settle_gates.Given as goal

abbrev pub invariant-loop-i : goal.invariant-loop-i
invariant-loop-i l = BlockTo l.counts l.code l.initial.row l.initial.ack l.row l.ack l.i
