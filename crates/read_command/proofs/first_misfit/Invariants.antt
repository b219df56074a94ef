-- `read_command::first_misfit` meets its contract. The loop's invariant: the operands before `i` fit, so the search goes on from `i`. Assumes nothing.
use Prim.Native.Nat.{◌+◌, ◌*◌, ◌-◌}
use mathlib.Core.Path.{◌≡◌}
use Rattle.netlist.specs.Commands.{misfit_from}
use Rattle.read_command.proofs.first_misfit.Given as goal

abbrev pub invariant-loop-i : goal.invariant-loop-i
invariant-loop-i l = misfit_from l.k 0 l.s l.at l.m ≡ misfit_from l.k l.i l.s (l.at + 2 * l.i) (l.m - l.i)
