-- Acknowledged nets: what the outputs, or a gate further on, wait for.
-- Assumes nothing.
use Rattle.std.specs.Prelude.{◌≡◌, Bool, true, false, ℕ, ◌<◌}
use Rattle.runs.specs.Row.{Row, only, ◌∖◌}
use Rattle.runs.specs.Net.{Net, IsGate, may_fall}

-- A net that is high in the settled row R is acknowledged if it is a rail of an output, or if some high gate's set expression is false once
-- that net alone is low.
pub data Acknowledged (N : Net) (R : Row) (k : ℕ) : Type 0 where
  output : (j : ℕ) (b : Bool) → j < N.outputs → N.rail j b ≡ k → Acknowledged N R k
  next : (g : ℕ) → IsGate N g → R g ≡ true → N.fires (R ∖ only k) g ≡ false → Acknowledged N R k

-- On the way back to NULL such a net is acknowledged if it is a rail of an output, or if some high gate may not fall while that net alone is
-- high.
pub data FallAcknowledged (N : Net) (R : Row) (k : ℕ) : Type 0 where
  fall_output : (j : ℕ) (b : Bool) → j < N.outputs → N.rail j b ≡ k → FallAcknowledged N R k
  fall_next : (g : ℕ) → IsGate N g → R g ≡ true → may_fall N (only k) g ≡ false → FallAcknowledged N R k
