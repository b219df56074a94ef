-- `call_make::put_outputs` meets its contract. The loop's invariant: the outputs before output j are put. Assumes nothing.
use Rattle.netlist.specs.declared.File.TheVariants as file
use Rattle.netlist.specs.Writing.{output}
use Rattle.write_made.specs.Rails.{pair_stored}
use Rattle.verdict.specs.Graph.{tabulate}
use Rattle.write_command.proofs.Putting.{PutTo}
use Rattle.circuit.specs.Reference.{signal_in}
use Rattle.call_make.proofs.put_outputs.Given as goal

abbrev pub invariant-loop-j : goal.invariant-loop-j
invariant-loop-j l =
    PutTo file.Stage output 5 (tabulate (λ i. pair_stored l.rails (signal_in l.sizes l.reference i)) l.sizes.outputs) l.initial.buffer l.at l.buffer l.j
