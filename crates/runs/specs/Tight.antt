-- Rows in which nothing is high, or nothing has fallen, without cause; and stages that show in their outputs when such a row is whole.
-- Assumes nothing.
use Rattle.std.specs.Prelude.{◌≡◌, Bool, true, false, ℕ}
use Rattle.runs.specs.Row.{Row, low}
use Rattle.runs.specs.Net.{Net, rise_up, fall_down}
use Rattle.runs.specs.Theory.{◌⊑◌}
use Rattle.runs.specs.Settled.{Settled}
use Rattle.runs.specs.Pair.{AllData, AllNull, Reads}

-- Each high net has its cause: a rail is in c, a gate's set expression holds.
abbrev pub Supported : Net → Row → Row → Type 0
Supported N c r = (k : ℕ) → r k ≡ true → rise_up N c r k ≡ true

-- What 13, 14 and 15 come to: the settled row shows the answer, and a supported row with all outputs DATA is the settled row.
pub record Tight (N : Net) (c : Row) (answer : ℕ → Bool) : Type 0 where
  pub right : (R : Row) → Settled N c R → Reads N R answer
  pub tight : (R : Row) → Settled N c R → (r : Row) → Supported N c r → AllData N r → r ≡ R

-- Each net that was high in R and is low now has its cause: a gate may fall by its rule (a rail always may).
abbrev pub Released : Net → Row → Row → Type 0
Released N R r = (k : ℕ) → R k ≡ true → r k ≡ false → fall_down N r k ≡ true

-- What 20 and 21 come to: a released row with all outputs NULL is low in every net.
abbrev pub Clear : Net → Row → Type 0
Clear N c = (R : Row) → Settled N c R → (r : Row) → r ⊑ R → Released N R r → AllNull N r → r ≡ low
