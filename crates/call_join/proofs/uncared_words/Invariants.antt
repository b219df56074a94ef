-- `call_join::uncared_words` meets its contract. The loop's invariant: those of the words before word j are named. Assumes nothing.
use Rattle.verdict.specs.Words.{words}
use Rattle.circuit.specs.Stage.{stage_in}
use Rattle.call_join.specs.Steps.{answer_in, uncared_for}
use Rattle.call_join.proofs.Masks.{WordsTo}
use Rattle.call_join.proofs.uncared_words.Given as goal

abbrev pub invariant-loop-j : goal.invariant-loop-j
invariant-loop-j l =
    WordsTo (λ i. uncared_for (stage_in l.counts2 l.code2) (answer_in l.sizes1 l.reference1 l.values i)) l.words l.j
