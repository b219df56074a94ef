-- What a pipeline that was read can be relied on for: every operand names what its role asks for.
use Rattle.std.specs.Prelude.{ℕ, ◌≤◌, ◌<◌, ◌≡◌, Bool, true, false, ◌⊎◌}
use Rattle.netlist.specs.Bytes.{outside}
use Rattle.verdict.specs.Paths.{In}
use Rattle.wiring_spec.specs.Parts.{Driver, input, gate, rail, acknowledge, completion, nothing}
use Rattle.wiring_spec.specs.Parts.{Pipeline, register_count, data_of, ki_of, driver_of, all_nets}
use Rattle.wiring_spec.specs.Wiring.{gate_steps, openings}

-- a rail of an input or of a register, or a gate
unfoldable pub carries_data : Driver → Bool
carries_data input = true
carries_data (gate pins) = true
carries_data (rail k b) = true
carries_data (acknowledge k) = false
carries_data (completion pins) = false
carries_data nothing = false

abbrev pub IsData : Pipeline → ℕ → Type 0
IsData p x = carries_data (driver_of p x) ≡ true

-- FFFE is above all nets
pub record Named (p : Pipeline) : Type 0 where
  pub few : all_nets p ≤ outside
  pub gate_pin : (x v : ℕ) → In v (gate_steps p x) → IsData p v
  pub element_pin : (x v : ℕ) → In v (openings p x) → v < all_nets p
  pub rail : (k v : ℕ) → In v (data_of p k) → IsData p v
  pub ki : (k : ℕ) → k < register_count p → (ki_of p k ≡ outside) ⊎ (ki_of p k < all_nets p)
