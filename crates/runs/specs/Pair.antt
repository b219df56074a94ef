-- Pairs of rails: NULL, DATA0, DATA1 and both rails high; and what all outputs, or all inputs, hold.
-- Assumes nothing.
use Rattle.std.specs.Prelude.{◌≡◌, Bool, true, false, not, ℕ, ◌<◌}
use Rattle.runs.specs.Row.{Row}
use Rattle.runs.specs.Net.{Net, nets, input_rail}

-- A pair is given by the net of rail 0 and the net of rail 1: `N.rail j` is output j's, `input_rail i` input i's.

-- DATA of bit b, "DATA0 (only rail 0 high) or DATA1 (only rail 1 high)": rail b is high and the other is low.
abbrev pub DataOf : Row → (Bool → ℕ) → Bool → Type 0
DataOf r p b = (r (p b) ≡ true) × (r (p (not b)) ≡ false)

-- DATA: exactly one rail is high.
abbrev pub Data : Row → (Bool → ℕ) → Type 0
Data r p = r (p false) ≡ not (r (p true))

-- "NULL (both rails low)".
abbrev pub Null : Row → (Bool → ℕ) → Type 0
Null r p = (r (p false) ≡ false) × (r (p true) ≡ false)

-- Both rails are high: neither NULL nor DATA.
abbrev pub Both : Row → (Bool → ℕ) → Type 0
Both r p = (r (p false) ≡ true) × (r (p true) ≡ true)

abbrev pub AllData : Net → Row → Type 0
AllData N r = (j : ℕ) → j < N.outputs → Data r (N.rail j)

abbrev pub AllNull : Net → Row → Type 0
AllNull N r = (j : ℕ) → j < N.outputs → Null r (N.rail j)

-- "It is read where, for every j, pair j of the stage is DATA1 if that value is 1 and DATA0 if it is 0."
abbrev pub Reads : Net → Row → (ℕ → Bool) → Type 0
Reads N r answer = (j : ℕ) → j < N.outputs → DataOf r (N.rail j) (answer j)

-- Every input holds DATA. A set of rails for which this holds is a word's.
abbrev pub InputsData : Net → Row → Type 0
InputsData N r = (i : ℕ) → i < N.inputs → Data r (input_rail i)

-- Every input and gate is low.
abbrev pub AllLow : Net → Row → Type 0
AllLow N r = (k : ℕ) → k < nets N → r k ≡ false
