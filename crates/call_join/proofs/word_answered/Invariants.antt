-- `call_join::word_answered` meets its contract. The loop's invariant: the outputs from output k on spell `word`. Assumes nothing.
use mathlib.Core.Path.{◌≡◌}
use Rattle.circuit.specs.Reference.{signal_in}
use Rattle.call_join.proofs.Answers.{word_from, value_in}
use Rattle.call_join.proofs.word_answered.Given as goal

abbrev pub invariant-loop-k : goal.invariant-loop-k
invariant-loop-k l = l.word ≡ word_from (value_in l.values l.j) (signal_in l.sizes l.reference) l.sizes.outputs l.k
