-- From 13 on a register counts as two wires.
use Rattle.std.specs.Prelude.{ℕ, zero, suc, ◌+◌, ◌*◌, ◌<◌, ◌≡◌, Bool, length, get_or}
use Rattle.gates.specs.Cell.{bit}
use Rattle.wiring_spec.specs.Parts.{Pipeline, Driver, input, gate, rail, acknowledge, completion, nothing, register_count, data_of, driver_of}
use Rattle.wiring_spec.specs.Wiring.{circular}
use Rattle.wiring_spec.specs.Passing.{Nowhere}
use Rattle.wiring_spec.specs.Named.{IsData, Named}

-- the net at the data of a register, for a rail of it; any other net is its own
unfoldable pub wire_of : Pipeline → ℕ → Driver → ℕ
wire_of p x input = x
wire_of p x (gate pins) = x
wire_of p x (rail k b) = get_or (data_of p k) (bit b) 0
wire_of p x (acknowledge k) = x
wire_of p x (completion pins) = x
wire_of p x nothing = x

unfoldable pub times : ℕ → (ℕ → ℕ) → ℕ → ℕ
times zero f x = x
times (suc k) f x = times k f (f x)

-- What a pin or an output is put on: of a rail of a register the net at that register's data, and again, until it is a rail of an input or a gate. As
-- many times as there are registers are enough where none reaches itself.
unfoldable pub resolve : Pipeline → ℕ → ℕ
resolve p = times (register_count p) (λ x. wire_of p x (driver_of p x))

-- "a register counts as two wires": a net that is no rail of a register stays. Where the first pass of 33 finds nothing, rail b of register k is put on what
-- its data net b is put on, and what carries data on a rail of an input or a gate; their nets come before all others.
pub record WiresMean (p : Pipeline) : Type 0 where
  pub own : (x : ℕ) → ((k : ℕ) (b : Bool) → ¬ (driver_of p x ≡ rail k b)) → resolve p x ≡ x
  pub as_data : Nowhere p (circular p) → (x k : ℕ) (b : Bool) → driver_of p x ≡ rail k b → resolve p x ≡ resolve p (get_or (data_of p k) (bit b) 0)
  pub ends : Nowhere p (circular p) → Named p → (x : ℕ) → IsData p x → resolve p x < 2 * p.inputs + length p.gates
