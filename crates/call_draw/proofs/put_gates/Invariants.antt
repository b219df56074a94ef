-- `call_draw::put_gates` meets its contract. The loop's invariant: the gates before gate k are drawn, put and marked. Assumes nothing.
use Rattle.call_draw.proofs.Turns.{GatesTo, MarksTo}
use Rattle.call_draw.proofs.put_gates.Given as goal

abbrev pub invariant-loop-k : goal.invariant-loop-k
invariant-loop-k l =
    GatesTo l.seed l.inputs l.gates l.initial.buffer l.buffer l.state l.k × MarksTo l.seed l.inputs l.gates l.initial.marks l.marks l.state l.k
