-- `text_write::put_gates` meets its contract. The loop's invariant: the lines from gate k on are left. Assumes nothing.
use Prim.Native.Nat.{◌≤◌}
use Rattle.text_lines.specs.Names.{NameTable}
use Rattle.text_write.proofs.Loops.{TextLeft}
use Rattle.text_write.proofs.Names.{lines_from}
use Rattle.text_write.proofs.put_gates.Given as goal

abbrev pub invariant-loop-k : goal.invariant-loop-k
invariant-loop-k l =
    NameTable l.names × (l.k ≤ l.counts.gates) × TextLeft l.initial.work l.start (lines_from l.counts l.code 0) l.work l.at (lines_from l.counts l.code l.k)
