-- `write_joined::put_operations` meets its contract. The loop's invariant: the gates before gate k are put. Assumes nothing.
use Rattle.netlist.specs.declared.File.TheVariants as file
use Rattle.netlist.specs.Writing.{gate}
use Rattle.circuit.specs.Reference.{operator_in, reference_in}
use Rattle.write_joined.specs.Moved.{operation_moved}
use Rattle.verdict.specs.Graph.{tabulate}
use Rattle.write_command.proofs.Putting.{PutTo}
use Rattle.write_joined.proofs.put_operations.Given as goal

abbrev pub invariant-loop-k : goal.invariant-loop-k
invariant-loop-k l =
    PutTo file.Reference gate 6 (tabulate (λ i. operation_moved (reference_in l.place.counts l.place.first.now) l.place.moved (operator_in l.reference i)) l.sizes.gates) l.initial.buffer l.at l.buffer l.k
