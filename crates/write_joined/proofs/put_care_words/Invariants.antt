-- `write_joined::put_care_words` meets its contract. The loop's invariant: the care words before word k are put. Assumes nothing.
use Rattle.netlist.specs.declared.File.TheVariants as file
use Rattle.netlist.specs.Writing.{care}
use Rattle.circuit.specs.Stage.{care_in}
use Rattle.verdict.specs.Graph.{tabulate}
use Rattle.write_command.proofs.Putting.{PutTo}
use Rattle.write_joined.proofs.put_care_words.Given as goal

abbrev pub invariant-loop-k : goal.invariant-loop-k
invariant-loop-k l = PutTo file.Stage care 3 (tabulate (care_in l.counts l.code) l.counts.care) l.initial.buffer l.at l.buffer l.k
