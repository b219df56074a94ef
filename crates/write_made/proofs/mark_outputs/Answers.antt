-- `write_made::mark_outputs` meets its contract. The loop's invariant: marking the outputs from output j on gives all. Assumes nothing.
use native.Mathlib.Omega.{arith}
use Rattle.circuit.specs.Reference.{signals_in}
use Rattle.write_made.proofs.Marking.{marked_turn, marked_done}
use Rattle.write_made.proofs.mark_outputs.Goals as goal

pub loop-j-preserved : goal.loop-j-preserved
loop-j-preserved c = rw c.signal_of-signal.ensures.is (marked_turn _ _ (omega arith) c.loop-j.invariant)

pub returns : goal.returns
unfolding signals_in
returns c = marked_done _ _ (omega arith) c.loop-j.invariant
