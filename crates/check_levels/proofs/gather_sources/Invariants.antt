-- `check_levels::gather_sources` meets its contract. The loop's invariant: the registers before t have what leads to their data. Assumes nothing.
use Rattle.check_levels.proofs.Gathering.{FilledTo}
use Rattle.check_levels.proofs.gather_sources.Given as goal

abbrev pub invariant-loop-t : goal.invariant-loop-t
invariant-loop-t l = FilledTo l.rails l.first l.sets l.regs l.initial.sources l.sources l.t
