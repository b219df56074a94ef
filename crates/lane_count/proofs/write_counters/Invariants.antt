-- `lane_count::write_counters` meets its contract. The loop's invariant: of each 16 words of the block the counters of the first j are written.
-- Assumes nothing.
use Rattle.lane_count.proofs.Words.{WrittenTo}
use Rattle.lane_count.proofs.write_counters.Given as goal

abbrev pub invariant-loop-j : goal.invariant-loop-j
invariant-loop-j l = WrittenTo l.b l.digits l.initial.high l.high l.j
