-- `write_made::mark_outputs` meets its contract. The loop's invariant: marking the outputs from output j on gives all. Assumes nothing.
use Rattle.circuit.specs.Reference.{signal_in}
use Rattle.write_made.proofs.Marking.{MarkedTo}
use Rattle.write_made.proofs.mark_outputs.Given as goal

abbrev pub invariant-loop-j : goal.invariant-loop-j
invariant-loop-j l = MarkedTo (signal_in l.sizes l.reference) l.sizes.outputs l.initial.marks l.marks l.j
