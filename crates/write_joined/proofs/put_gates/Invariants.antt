-- `write_joined::put_gates` meets its contract. The loop's invariant: the gates before gate k are put. Assumes nothing.
use Rattle.netlist.specs.declared.File.TheVariants as file
use Rattle.circuit.specs.Stage.{gate_in, stage_in}
use Rattle.write_command.specs.Parts.{gate_item}
use Rattle.write_joined.specs.Moved.{gate_moved}
use Rattle.verdict.specs.Graph.{tabulate}
use Rattle.write_command.proofs.Putting.{PutTo}
use Rattle.write_joined.proofs.put_gates.Given as goal

abbrev pub invariant-loop-k : goal.invariant-loop-k
invariant-loop-k l =
    PutTo file.Stage gate_item 10 (tabulate (λ i. gate_moved (stage_in l.place.counts l.place.first.now) l.place.moved (gate_in l.code i)) l.counts.gates) l.initial.buffer l.at l.buffer l.k
