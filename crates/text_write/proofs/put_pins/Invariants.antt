-- `text_write::put_pins` meets its contract. The loop's invariant: the pins from i on are left. Assumes nothing.
use Prim.Native.Nat.{◌≤◌}
use Rattle.text_write.proofs.Loops.{TextLeft, others_from}
use Rattle.text_write.proofs.Names.{pin_name}
use Rattle.text_write.proofs.put_pins.Given as goal

abbrev pub invariant-loop-i : goal.invariant-loop-i
invariant-loop-i l =
    (1 ≤ l.i) × (l.i ≤ l.count) × TextLeft l.initial.work l.initial.at (others_from (pin_name l.counts l.code l.k) l.count 1) l.work l.at (others_from (pin_name l.counts l.code l.k) l.count l.i)
