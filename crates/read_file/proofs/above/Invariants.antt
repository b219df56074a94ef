-- `read_file::above` meets its contract. The loop's invariant: the operands before `i` are below the top. Assumes nothing.
use Prim.Native.Nat.{◌≤◌}
use Rattle.read_file.specs.Files.{Below}
use Rattle.read_file.proofs.above.Given as goal

abbrev pub invariant-loop-i : goal.invariant-loop-i
invariant-loop-i l = (l.top ≤ l.high) × Below l.s l.place l.i l.spare l.high
