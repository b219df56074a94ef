-- What it is for an output of a stage in its flat form to fail in a row.
use Rattle.std.specs.Prelude.{ℕ, ◌≤◌, ◌≡◌, Bool, not, List}
use Rattle.gates.specs.Cell.{bit}
use Rattle.netlist.specs.declared.Counts.{Counts}
use Rattle.netlist.specs.Content.{Pair}
use Rattle.verdict.specs.Rows.{DualRail, high, pair_in, spells}
use Rattle.circuit.specs.Stage.{output_in}
use Rattle.circuit_values.specs.declared.RailLevels.{RailLevels}

-- the levels of two rails in a row
pub record RailsHigh (row : List ℕ) (o : Pair) (r : RailLevels) : Type 0 where
  pub rail0_is : r.rail0 ≡ bit (high row o.rail0)
  pub rail1_is : r.rail1 ≡ bit (high row o.rail1)
  pub rail0_small : r.rail0 ≤ 1
  pub rail1_small : r.rail1 ≤ 1

-- output j fails a test in a row
abbrev pub output_fails : (DualRail → Bool) → Counts → List ℕ → List ℕ → ℕ → Bool
output_fails test c code row j = not (test (pair_in row (output_in c code j)))

-- output j does not read as a value
abbrev pub misread : Counts → List ℕ → List ℕ → (ℕ → ℕ) → ℕ → Bool
misread c code row value j = not (spells (pair_in row (output_in c code j)) (value j))
