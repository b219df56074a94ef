-- `write_made::mark_leading` meets its contract. The loop's invariant: the gates from gate k on have marked their operands. Assumes nothing.
use Rattle.write_made.proofs.Marking.{LeadingTo}
use Rattle.write_made.proofs.mark_leading.Given as goal

abbrev pub invariant-loop-k : goal.invariant-loop-k
invariant-loop-k l = LeadingTo l.sizes l.reference l.initial.marks l.marks l.k
