-- `check_words::sweep_named` meets its contract. The loop's invariant: the checks before check i find nothing. Assumes nothing.
use Rattle.circuit.specs.Stage.{stage_in}
use Rattle.circuit.specs.Reference.{reference_in}
use Rattle.check_words.proofs.Sweeping.{PassedTo}
use Rattle.check_words.proofs.sweep_named.Given as goal

abbrev pub invariant-loop-i : goal.invariant-loop-i
invariant-loop-i l = PassedTo l.order (stage_in l.counts l.code) (reference_in l.sizes l.reference) l.i
