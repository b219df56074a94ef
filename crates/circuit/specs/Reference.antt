-- A reference in its flat form, one list of numbers. Gate k has three, from 3k on: its operation and its two operands; a NOT has its
-- first operand twice. Output j has one, after the gates: its signal.
use Rattle.std.specs.Prelude.{ℕ, ◌+◌, ◌*◌, ◌≤◌, ◌<◌, cond, List, [], ◌∷◌, length, get_or, take, eqb}
use Rattle.netlist.specs.declared.Counts.{Counts}
use Rattle.netlist.specs.Reading.{reference_limits, Within}
use Rattle.netlist.specs.Content.{Coded, Reference}
use Rattle.circuit.specs.Stage.{tabulate}

abbrev pub operation_in : List ℕ → ℕ → ℕ
operation_in code k = get_or code (3 * k) 0

-- operand i of gate k
abbrev pub operand_in : List ℕ → ℕ → ℕ → ℕ
operand_in code k i = get_or code (3 * k + (1 + i)) 0

-- gate k: operation 1, NOT, has one operand, and the others two
abbrev pub operator_in : List ℕ → ℕ → Coded
operator_in code k = record {
  code = operation_in code k;
  operands = take (cond (eqb (operation_in code k) 1) 1 2) (operand_in code k 0 ∷ operand_in code k 1 ∷ []);
}

unfoldable pub operators_in : Counts → List ℕ → List Coded
operators_in c code = tabulate (operator_in code) c.gates

abbrev pub signal_in : Counts → List ℕ → ℕ → ℕ
signal_in c code j = get_or code (3 * c.gates + j) 0

unfoldable pub signals_in : Counts → List ℕ → List ℕ
signals_in c code = tabulate (signal_in c code) c.outputs

abbrev pub reference_in : Counts → List ℕ → Reference
reference_in c code = record { inputs = c.inputs; gates = operators_in c code; outputs = signals_in c code }

-- how many numbers it takes, and the largest
abbrev pub reference_size : Counts → ℕ
reference_size c = 3 * c.gates + c.outputs

abbrev pub largest_reference : ℕ
largest_reference = 3 * reference_limits.gates + reference_limits.outputs

-- The numbers are a reference within the limits: its operations are known, its operands are inputs and earlier gates.
pub record ReferenceLoaded (c : Counts) (code : List ℕ) : Type 0 where
  pub within : Within reference_limits c
  pub room : reference_size c ≤ length code
  pub low : (k : ℕ) → k < c.gates → 1 ≤ operation_in code k
  pub high : (k : ℕ) → k < c.gates → operation_in code k ≤ 6
  pub operand : (k i : ℕ) → k < c.gates → i < 2 → operand_in code k i < c.inputs + k
  pub signal : (j : ℕ) → j < c.outputs → signal_in c code j < c.inputs + c.gates
