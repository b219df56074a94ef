-- What it means that the checks 13 to 15, and 20 and 21, find nothing in a word, whose rails are c. A stage without loops has exactly one
-- settled row of each sort (proofs/Rise, proofs/Fall): to say a thing of every such row is to say it of the one there is.
-- Assumes nothing.
use Rattle.std.specs.Prelude.{◌≡◌, Bool, true, ℕ, ◌<◌}
use Rattle.runs.specs.Row.{Row, only, ◌∖◌}
use Rattle.runs.specs.Net.{Net, IsGate, rails_of_inputs}
use Rattle.runs.specs.Settled.{Settled, SettledHeld, SettledKept}
use Rattle.runs.specs.Pair.{AllData, AllNull, Reads}

-- 13, "settled output pair is not the reference's DATA", is nowhere so: `right`.
-- 14, "with w given and input i NULL, all settled outputs are DATA", is nowhere so: `complete`.
-- 15, "a gate high in w; settled with it held low, all outputs still DATA", is nowhere so: `observable`.
pub record Passes (N : Net) (c : Row) (answer : ℕ → Bool) : Type 0 where
  pub right : (R : Row) → Settled N c R → Reads N R answer
  pub complete : (i : ℕ) → i < N.inputs → (r : Row) → Settled N (c ∖ rails_of_inputs N (only i)) r → ¬ (AllData N r)
  pub observable : (R : Row) → Settled N c R → (g : ℕ) → IsGate N g → R g ≡ true → (r : Row) → SettledHeld N c (only g) r → ¬ (AllData N r)

-- 20, "all inputs fallen but i, which keeps its DATA, every gate settled by the fall rule, all outputs NULL": `complete`.
-- 21, "a gate high in w is held high, all inputs fallen, every other gate settled so, all outputs NULL": `observable`.
pub record FallPasses (N : Net) (c : Row) : Type 0 where
  pub complete : (R : Row) → Settled N c R → (i : ℕ) → i < N.inputs → (r : Row) → SettledKept N (rails_of_inputs N (only i)) R r → ¬ (AllNull N r)
  pub observable : (R : Row) → Settled N c R → (g : ℕ) → IsGate N g → R g ≡ true → (r : Row) → SettledKept N (only g) R r → ¬ (AllNull N r)
