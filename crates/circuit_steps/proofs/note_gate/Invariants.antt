-- `circuit_steps::note_gate` meets its contract. The loop's invariant: the net is noted for the first i pins. Assumes nothing.
use mathlib.Core.Path.{◌≡◌}
use Rattle.circuit_steps.proofs.Fed.{noted}
use Rattle.circuit_steps.proofs.note_gate.Given as goal

abbrev pub invariant-loop-i : goal.invariant-loop-i
invariant-loop-i l = l.fed ≡ noted l.code l.k l.net l.initial.fed l.i
