-- `text_write::put_output_names` meets its contract. The loop's invariant: the names from j on are left. Assumes nothing.
use Prim.Native.Nat.{◌≤◌}
use Rattle.text_write.proofs.Loops.{TextLeft, others_from}
use Rattle.text_write.proofs.Names.{name_at}
use Rattle.text_write.proofs.put_output_names.Given as goal

abbrev pub invariant-loop-j : goal.invariant-loop-j
invariant-loop-j l = (1 ≤ l.j) × (l.j ≤ l.counts.outputs) × TextLeft l.initial.work l.initial.at (others_from (name_at l.counts l.code) l.counts.outputs 1) l.work l.at
    (others_from (name_at l.counts l.code) l.counts.outputs l.j)
