-- `check_wiring::open_all` meets its contract. The loop's invariant: what stands behind the Ki of each register before k is known. Assumes nothing.
use mathlib.Core.Path.{◌≡◌}
use lib.ListN.{length}
use Rattle.check_open.specs.Opening.{Table}
use Rattle.check_wiring.specs.Opened.{OpenedTo}
use Rattle.check_wiring.proofs.open_all.Given as goal

abbrev pub invariant-loop-k : goal.invariant-loop-k
invariant-loop-k l = OpenedTo l.nets l.first l.regs l.initial.behind l.behind l.k × Table l.nets l.first l.met × (length l.met ≡ length l.initial.met)
