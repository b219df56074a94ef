-- `check_levels::close_through` meets its contract. The loop's invariant: the registers before t have the sources of j added, where j is among theirs. Assumes nothing.
use mathlib.Core.Path.{◌≡◌}
use lib.ListN.{get_or}
use Rattle.check_levels.specs.Graph.{Through}
use Rattle.check_levels.proofs.close_through.Given as goal

abbrev pub invariant-loop-t : goal.invariant-loop-t
invariant-loop-t l = (l.through ≡ get_or l.initial.sources l.j 0) × Through l.initial.sources l.j l.t l.sources
