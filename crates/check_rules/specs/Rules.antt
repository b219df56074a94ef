-- Sets of registers in numbers of 64 bits, and the rules that a register may break.
use Rattle.std.specs.Prelude.{ℕ, ◌<◌, ◌≡◌, Bool, false, cond, not, ◌&&◌, List, [], ◌∷◌, ltb}
use Rattle.verdict.specs.Lists.{numbers, some}
use Rattle.verdict.specs.Checks.{Check}
use Rattle.lane_cells.specs.Lane.{lane}
use Rattle.wiring_spec.specs.Parts.{Pipeline}
use Rattle.wiring_spec.specs.Wiring.{uneven, missing, barred}
use Rattle.wiring_spec.specs.Table.{of_registers}

-- a number is the set of those registers before t that pass a test
abbrev pub SetTo : (ℕ → Bool) → ℕ → ℕ → Type 0
SetTo test t set = (i : ℕ) → i < 64 → lane i set ≡ cond (ltb i t) (test i) false

-- some of `few` are not in `all`
abbrev pub lacking : ℕ → ℕ → Bool
lacking all few = some (λ i. lane i few && not (lane i all)) (numbers 0 64)

-- the checks after the first pass of 33
abbrev pub later_checks : Pipeline → List Check
later_checks p = of_registers 33 uneven p ∷ of_registers 34 missing p ∷ of_registers 35 barred p ∷ []
