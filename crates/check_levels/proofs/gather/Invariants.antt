-- `check_levels::gather` meets its contract. The loop's invariant: the gates at the places before i have their sets. Assumes nothing.
use Prim.Native.Nat.{ℕ, ◌<◌}
use mathlib.Core.Path.{◌≡◌}
use mathlib.Core.Bool.{Bool}
use lib.ListN.{length}
use Rattle.wiring_spec.specs.Parts.{Pipeline}
use Rattle.circuit_wire.specs.Wire.{RawLoaded}
use Rattle.check_levels.specs.Sources.{Seeds}
use Rattle.check_levels.proofs.Gathering.{GatheredTo}
use Rattle.check_levels.proofs.gather.Given as goal

abbrev pub invariant-loop-i : goal.invariant-loop-i
invariant-loop-i l = (length l.sets ≡ length l.initial.sets)
    × ((p : Pipeline) (own : ℕ → Bool) (t : ℕ) → t < 64 → RawLoaded p l.fn.counts l.raw → Seeds p own t l.rails l.fn.counts l.initial.sets → GatheredTo p own t l.rails l.order l.fn.counts l.sets l.i)
