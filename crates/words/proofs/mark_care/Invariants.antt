-- `words::mark_care` meets its contract. The loop's invariant: the first care words are marked. Assumes nothing.
use mathlib.Core.Path.{◌≡◌}
use lib.ListN.{length}
use Rattle.circuit.specs.Stage.{stage_care}
use Rattle.words.proofs.Marking.{MarkedTo}
use Rattle.words.proofs.mark_care.Given as goal

abbrev pub invariant-loop-k : goal.invariant-loop-k
invariant-loop-k l = (length l.marks ≡ length l.initial.marks) × MarkedTo (stage_care l.counts l.code) l.marks l.k
