-- `text_write::put_input_names` meets its contract. The loop's invariant: the names from i on are left. Assumes nothing.
use Prim.Native.Nat.{◌≤◌}
use Rattle.text_write.proofs.Loops.{TextLeft, others_from}
use Rattle.text_spec.specs.ToText.{x}
use Rattle.text_write.proofs.put_input_names.Given as goal

abbrev pub invariant-loop-i : goal.invariant-loop-i
invariant-loop-i l = (1 ≤ l.i) × (l.i ≤ l.inputs) × TextLeft l.initial.work l.initial.at (others_from x l.inputs 1) l.work l.at (others_from x l.inputs l.i)
