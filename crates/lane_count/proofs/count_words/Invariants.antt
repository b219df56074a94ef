-- `lane_count::count_words` meets its contract. The loop's invariant: it is known how many gates are high in the words of the blocks before b.
-- Assumes nothing.
use Rattle.lane_count.proofs.Words.{BlocksTo}
use Rattle.lane_count.proofs.count_words.Given as goal

abbrev pub invariant-loop-b : goal.invariant-loop-b
invariant-loop-b l = BlocksTo l.counts l.code l.initial.high l.high l.row l.b
