-- `call_draw::put_outputs` meets its contract. The loop's invariant: the signals before signal x are passed. Assumes nothing.
use Rattle.call_draw.proofs.Turns.{OutputsTo}
use Rattle.call_draw.proofs.put_outputs.Given as goal

abbrev pub invariant-loop-x : goal.invariant-loop-x
invariant-loop-x l = OutputsTo l.marks l.signals l.initial.buffer l.from l.buffer l.at l.x
