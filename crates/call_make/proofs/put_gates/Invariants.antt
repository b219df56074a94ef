-- `call_make::put_gates` meets its contract. The loop's invariant: the gates before gate k are made. Assumes nothing.
use Rattle.call_make.proofs.Building.{MadeTo}
use Rattle.call_make.proofs.put_gates.Given as goal

abbrev pub invariant-loop-k : goal.invariant-loop-k
invariant-loop-k l = MadeTo l.sizes l.reference l.initial.buffer l.initial.rails l.buffer l.rails l.made l.k
