-- `text_write::put_gate_net` meets its contract. The loop's invariant: no output before output i is on the net. Assumes nothing.
use mathlib.Core.Path.{◌≡◌}
use Rattle.text_write.proofs.Names.{NotBefore}
use Rattle.text_write.proofs.put_gate_net.Given as goal

abbrev pub invariant-loop-i : goal.invariant-loop-i
invariant-loop-i l = (l.work ≡ l.initial.work) × NotBefore l.counts l.code l.v l.i
