-- `circuit_steps::note_fed` meets its contract. The loop's invariant: the gates from gate k on are noted. Assumes nothing.
use Rattle.circuit_steps.specs.Fed.{FedFrom}
use Rattle.circuit_steps.proofs.note_fed.Given as goal

abbrev pub invariant-loop-k : goal.invariant-loop-k
invariant-loop-k l = FedFrom l.counts l.code l.k l.fed
