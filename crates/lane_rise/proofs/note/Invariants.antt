-- `lane_rise::note` meets its contract. The loop's invariant: the gates before gate k are noted, and the others are as they were. Assumes nothing.
use Rattle.lane_rise.proofs.Noting.{NotedSoFar}
use Rattle.lane_rise.proofs.note.Given as goal

abbrev pub invariant-loop-k : goal.invariant-loop-k
invariant-loop-k l = NotedSoFar l.row l.from l.words l.initial.rose l.rose l.k
