-- `circuit_load::load_stage` meets its contract. The loop's invariant: the numbers of the gates and the first j that follow them are written. Assumes nothing.
use Prim.Native.Nat.{◌+◌, ◌*◌}
use mathlib.Core.Path.{◌≡◌}
use lib.ListN.{length}
use Rattle.circuit_load.specs.Load.{stage_number, WrittenTo}
use Rattle.circuit_load.proofs.load_stage.Given as goal

abbrev pub invariant-loop-j : goal.invariant-loop-j
invariant-loop-j l = (length l.code ≡ length l.initial.code) × WrittenTo (stage_number l.most l.s l.places l.counts l.ground) l.code (8 * l.counts.gates + l.j)
