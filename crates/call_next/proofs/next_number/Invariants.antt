-- `family::next_number` meets its contract. The loop's invariant: the numbers before z have loops. Assumes nothing.
use Rattle.call_next.proofs.Searching.{SearchTo}
use Rattle.call_next.proofs.next_number.Given as goal

abbrev pub invariant-loop-z : goal.invariant-loop-z
invariant-loop-z l = SearchTo l.inputs l.gates l.from l.count l.z
