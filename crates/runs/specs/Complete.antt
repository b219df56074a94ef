-- Input-complete and observable, as NULL Convention Logic defines these, in one word, whose rails are c; each with its rise and its fall.
-- Assumes nothing.
use Rattle.std.specs.Prelude.{◌≡◌, Bool, true, ℕ, ◌<◌}
use Rattle.runs.specs.Row.{Row, only, ◌∖◌}
use Rattle.runs.specs.Net.{Net, IsGate, rails_of_inputs}
use Rattle.runs.specs.Settled.{Settled, SettledHeld, SettledKept}
use Rattle.runs.specs.Pair.{Null, Reads}

-- There is a row that is P, and every row that is P is Q.
pub record Each (P Q : Row → Type 0) : Type 0 where
  pub some : (r : Row) × P r
  pub each : (r : Row) → P r → Q r

-- Some output is NULL; some output is not NULL.
abbrev pub SomeNull : Net → Row → Type 0
SomeNull N r = (j : ℕ) × (j < N.outputs) × Null r (N.rail j)

abbrev pub SomeNotNull : Net → Row → Type 0
SomeNotNull N r = (j : ℕ) × (j < N.outputs) × (¬ (Null r (N.rail j)))

-- Input-complete. Rise: with any non-empty set A of inputs missing, some output is still NULL. Fall: from the rest, with any non-empty
-- set A of inputs still DATA and the others NULL, some output is not yet NULL.
pub record InputComplete (N : Net) (c : Row) : Type 0 where
  pub rise : (A : ℕ → Bool) (i : ℕ) → i < N.inputs → A i ≡ true → Each (Settled N (c ∖ rails_of_inputs N A)) (SomeNull N)
  pub fall : (R : Row) → Settled N c R → (A : ℕ → Bool) (i : ℕ) → i < N.inputs → A i ≡ true
      → Each (SettledKept N (rails_of_inputs N A) R) (SomeNotNull N)

-- Observable, of each gate that is high at rest. Rise: while it has not risen, some output is still NULL. Fall: while it has not fallen,
-- some output is not yet NULL.
pub record Observable (N : Net) (c : Row) : Type 0 where
  pub rise : (R : Row) → Settled N c R → (g : ℕ) → IsGate N g → R g ≡ true → Each (SettledHeld N c (only g)) (SomeNull N)
  pub fall : (R : Row) → Settled N c R → (g : ℕ) → IsGate N g → R g ≡ true → Each (SettledKept N (only g) R) (SomeNotNull N)

-- What demand 2 asks of a word: "its settled outputs spell the reference's answer and it is input-complete and observable".
pub record Conforms (N : Net) (c : Row) (answer : ℕ → Bool) : Type 0 where
  pub right : Each (Settled N c) (λ R. Reads N R answer)
  pub complete : InputComplete N c
  pub observable : Observable N c
