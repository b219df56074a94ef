-- Two nets in a row: the outputs of the first are the inputs of the second.
-- Assumes nothing.
use Rattle.std.specs.Prelude.{◌≡◌, Bool, ℕ, ◌+◌, ◌-◌, ◌<◌}
use Rattle.runs.specs.Row.{Row}
use Rattle.runs.specs.Net.{Net, rails, nets, IsGate, input_rail, may_fall}
use Rattle.runs.specs.Acyclic.{AllPins}

-- Every pin and every output names a net.
pub record Named (N : Net) : Type 0 where
  pub pins : (g : ℕ) → IsGate N g → AllPins (λ p. p < nets N) (N.pins g)
  pub outs : (j : ℕ) → j < N.outputs → (b : Bool) → N.rail j b < nets N

-- W is net A followed by net B, of which net k is net `move k` of W: rail b of B's input j is rail b of A's output j, and B's gates stand
-- behind all nets of A. Each gate has in W the rules that it has in its part.
pub record InSeries (A B W : Net) (move : ℕ → ℕ) : Type 0 where
  pub seam : B.inputs ≡ A.outputs
  pub inputs : W.inputs ≡ A.inputs
  pub gates : W.gates ≡ A.gates + B.gates
  pub outputs : W.outputs ≡ B.outputs
  pub tied : (j : ℕ) → j < B.inputs → (b : Bool) → move (input_rail j b) ≡ A.rail j b
  pub moved : (k : ℕ) → IsGate B k → move k ≡ nets A + (k - rails B)
  pub rail : (j : ℕ) → j < B.outputs → (b : Bool) → W.rail j b ≡ move (B.rail j b)
  pub first_fires : (r : Row) (k : ℕ) → IsGate A k → W.fires r k ≡ A.fires r k
  pub first_falls : (r : Row) (k : ℕ) → IsGate A k → may_fall W r k ≡ may_fall A r k
  pub second_fires : (r : Row) (k : ℕ) → IsGate B k → W.fires r (move k) ≡ B.fires (λ p. r (move p)) k
  pub second_falls : (r : Row) (k : ℕ) → IsGate B k → may_fall W r (move k) ≡ may_fall B (λ p. r (move p)) k
