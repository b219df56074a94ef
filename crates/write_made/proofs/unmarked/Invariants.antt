-- `write_made::unmarked` meets its contract. The loop's invariant: the signals before x are marked. Assumes nothing.
use mathlib.Core.Bool.{not}
use Rattle.verdict.specs.Rows.{high}
use Rattle.verdict.proofs.Least.{SoughtTo}
use Rattle.write_made.proofs.unmarked.Given as goal

abbrev pub invariant-loop-x : goal.invariant-loop-x
invariant-loop-x l = SoughtTo (λ i. not (high l.marks i)) l.count l.x
