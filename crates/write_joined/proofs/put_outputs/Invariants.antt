-- `write_joined::put_outputs` meets its contract. The loop's invariant: the outputs before output j are put. Assumes nothing.
use Rattle.netlist.specs.declared.File.TheVariants as file
use Rattle.circuit.specs.Stage.{output_in, stage_in}
use Rattle.write_command.specs.Parts.{pair_item}
use Rattle.write_joined.specs.Moved.{pair_moved}
use Rattle.verdict.specs.Graph.{tabulate}
use Rattle.write_command.proofs.Putting.{PutTo}
use Rattle.write_joined.proofs.put_outputs.Given as goal

abbrev pub invariant-loop-j : goal.invariant-loop-j
invariant-loop-j l =
    PutTo file.Stage pair_item 5 (tabulate (λ i. pair_moved (stage_in l.place.counts l.place.first.now) l.place.moved (output_in l.counts l.code i)) l.counts.outputs) l.initial.buffer l.at l.buffer l.j
