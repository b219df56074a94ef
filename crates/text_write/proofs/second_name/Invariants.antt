-- `text_write::second_name` meets its contract. The loop's invariant: no output before j gives a net a second name. Assumes nothing.
use Rattle.circuit.specs.Stage.{output_in}
use Rattle.text_write.proofs.Second.{NoneTo}
use Rattle.text_write.proofs.second_name.Given as goal

abbrev pub invariant-loop-j : goal.invariant-loop-j
invariant-loop-j l = NoneTo l.counts.inputs (output_in l.counts l.code) l.counts.outputs l.j
