-- `write_made::operation_count` meets its contract. The loop's invariant: the gates from gate k on are counted. Assumes nothing.
use Rattle.write_made.proofs.Marking.{CountedTo}
use Rattle.write_made.proofs.operation_count.Given as goal

abbrev pub invariant-loop-k : goal.invariant-loop-k
invariant-loop-k l = CountedTo l.reference l.sizes.gates l.count l.k
