-- `check_levels::raise` meets its contract. The loop's invariant: the round has come to register t. Assumes nothing.
use Rattle.check_levels.specs.Graph.{RaisedTo}
use Rattle.check_levels.proofs.raise.Given as goal

abbrev pub invariant-loop-t : goal.invariant-loop-t
invariant-loop-t l = RaisedTo l.sources l.known l.level l.initial.levels l.levels l.next l.t
