-- The pins of a gate in its flat form, by their nets.
-- Assumes nothing.
use Prim.Native.Nat.{ℕ, zero, suc, ◌+◌, ◌-◌, ◌*◌, ◌≤◌, ◌<◌}
use native.Mathlib.Omega.{arith}
use mathlib.Core.Path.{◌≡◌, refl, ap, ap₂, ◌∙◌}
use mathlib.Core.Bool.{Bool, false}
use mathlib.Core.Logic.{inl, inr}
use mathlib.Core.List.{List, [], ◌∷◌, map}
use lib.ListN.{length, get_or, take}
use Rattle.gates.specs.Cell.{pin_count}
use Rattle.netlist.specs.declared.Counts.{Counts}
use Rattle.netlist.specs.Content.{Gate}
use Rattle.verdict.specs.Loops.{In, pins_at}
use Rattle.verdict.specs.Nets.{no_gate, driver}
use Rattle.verdict.proofs.Gates.{pins_at_holds}
use Rattle.circuit.specs.Stage.{cell_in, pin_in, gate_in, stage_gates, stage_in, StageLoaded}
use Rattle.circuit.proofs.Tabulate.{get_d_tabulate}
use Rattle.circuit.proofs.Pins.{first_pins, no_pins}
use Rattle.lane_cells.specs.declared.CellLanes.{CellLanes}
use Rattle.lane_cells.specs.Cells.{cell_lanes}
use Rattle.lane_settle.specs.Block.{Room}

-- ---- the first m of a list

first_in : (l : List ℕ) (m i : ℕ) → i < m → i < length l → In (get_or l i 0) (take m l)
first_in [] m i h l = absurd (omega arith)
first_in (p ∷ ps) zero i h l = absurd (omega arith)
first_in (p ∷ ps) (suc m) zero h l = inl refl
first_in (p ∷ ps) (suc m) (suc i) h l = inr (first_in ps m i (omega arith) (omega arith))

-- ---- gate k

four : List ℕ → ℕ → List ℕ
four code k = pin_in code k 0 ∷ pin_in code k 1 ∷ pin_in code k 2 ∷ pin_in code k 3 ∷ []

four-at : (code : List ℕ) (k i : ℕ) → i < 4 → get_or (four code k) i 0 ≡ pin_in code k i
unfolding four
four-at code k zero h = refl
four-at code k (suc zero) h = refl
four-at code k (suc (suc zero)) h = refl
four-at code k (suc (suc (suc zero))) h = refl
four-at code k (suc (suc (suc (suc i)))) h = absurd (omega arith)

module _ (code : List ℕ) (k i : ℕ) where
  pub pin_at : (f : ℕ → Bool) → i < pin_count (cell_in code k) → i < 4 → get_or (map f (gate_in code k).pins) i false ≡ f (pin_in code k i)
  unfolding four
  pin_at f h l = first_pins f (four code k) (pin_count (cell_in code k)) i h l ∙ ap f (four-at code k i l)

  pub pin_past : (f : ℕ → Bool) → pin_count (cell_in code k) ≤ i → get_or (map f (gate_in code k).pins) i false ≡ false
  unfolding four
  pin_past f h = no_pins f (four code k) (pin_count (cell_in code k)) i h

  pub pin_in_holds : i < pin_count (cell_in code k) → i < 4 → In (pin_in code k i) (gate_in code k).pins
  unfolding four
  pin_in_holds h l = rw (four-at code k i l) at (first_in (four code k) (pin_count (cell_in code k)) i h l)

module _ (c : Counts) (code : List ℕ) (k : ℕ) (h : k < c.gates) where
  pub gate_at_holds : get_or (stage_gates c code) k no_gate ≡ gate_in code k
  unfolding stage_gates
  gate_at_holds = get_d_tabulate (gate_in code) c.gates k no_gate h

  pub gate_pins_holds : pins_at (stage_gates c code) k ≡ (gate_in code k).pins
  gate_pins_holds = pins_at_holds (stage_gates c code) k ∙ ap (λ (g : Gate). g.pins) gate_at_holds

  pub driver_at : driver (stage_in c code) (2 * c.inputs + k) ≡ gate_in code k
  driver_at =
      let e : 2 * c.inputs + k - 2 * c.inputs ≡ k = omega arith in
      ap (λ (n : ℕ). get_or (stage_gates c code) n no_gate) e ∙ gate_at_holds

-- ---- lanes at the pins

-- a row with room for the ground has something at each pin
pub pin_there : (c : Counts) (code row : List ℕ) → StageLoaded c code → Room c row → (k : ℕ) → k < c.gates → (t : ℕ) → t < 4 → pin_in code k t < length row
pin_there c code row loaded room k h t l = omega (arith, (loaded.gate k h).pin t l)

pub lanes_alike : (cell a b c d a' b' c' d' : ℕ) (r : CellLanes) → a ≡ a' → b ≡ b' → c ≡ c' → d ≡ d' → r ≡ cell_lanes cell a b c d → r ≡ cell_lanes cell a' b' c' d'
lanes_alike cell a b c d a' b' c' d' r p q s t e = e ∙ ap₂ (λ (x y : ℕ). cell_lanes cell x y c d) p q ∙ ap₂ (λ (x y : ℕ). cell_lanes cell a' b' x y) s t
