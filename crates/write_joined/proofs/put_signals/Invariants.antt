-- `write_joined::put_signals` meets its contract. The loop's invariant: the outputs before output j are put. Assumes nothing.
use Rattle.netlist.specs.declared.File.TheVariants as file
use Rattle.circuit.specs.Reference.{signal_in, reference_in}
use Rattle.write_command.specs.Parts.{signal_item}
use Rattle.write_joined.specs.Moved.{signal_moved}
use Rattle.verdict.specs.Graph.{tabulate}
use Rattle.write_command.proofs.Putting.{PutTo}
use Rattle.write_joined.proofs.put_signals.Given as goal

abbrev pub invariant-loop-j : goal.invariant-loop-j
invariant-loop-j l =
    PutTo file.Reference signal_item 3 (tabulate (λ i. signal_moved (reference_in l.place.counts l.place.first.now) l.place.moved (signal_in l.sizes l.reference i)) l.sizes.outputs) l.initial.buffer l.at l.buffer l.j
