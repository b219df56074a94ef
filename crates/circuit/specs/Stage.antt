-- A stage in its flat form, one list of numbers. Gate k has eight, from 8k on: its cell, the nets at its pins A, B, C and D, the
-- gate at place k of the order, the place of gate k in the order, and 1 where it has hold. Output j has two, after the gates: its rails.
-- The care words follow.
use Rattle.std.specs.Prelude.{ℕ, ◌+◌, ◌*◌, ◌^◌, ◌≤◌, ◌<◌, ◌≡◌, List, [], ◌∷◌, length, get_or, take, eqb}
use Rattle.gates.specs.Cell.{pin_count}
use Rattle.netlist.specs.declared.Counts.{Counts}
use Rattle.netlist.specs.Reading.{stage_limits, Within}
use Rattle.netlist.specs.Content.{Gate, Pair, Stage}
unfoldable pub use Rattle.verdict.specs.Graph.{tabulate}

-- two nets for each input and one for each gate; the net after the last is the ground, which is always low
abbrev pub net_count : Counts → ℕ
net_count c = 2 * c.inputs + c.gates

-- ---- gates

abbrev pub cell_in : List ℕ → ℕ → ℕ
cell_in code k = get_or code (8 * k) 0

-- number j of gate k
abbrev pub slot : List ℕ → ℕ → ℕ → ℕ
slot code k j = get_or code (8 * k + j) 0

-- the net at pin i of gate k
abbrev pub pin_in : List ℕ → ℕ → ℕ → ℕ
pin_in code k i = slot code k (1 + i)

-- the gate at place i of the order, and the place of gate k in it
abbrev pub gate_at_place : List ℕ → ℕ → ℕ
gate_at_place code i = slot code i 5

abbrev pub place_of : List ℕ → ℕ → ℕ
place_of code k = slot code k 6

-- gate k: it has as many pins as its cell
abbrev pub gate_in : List ℕ → ℕ → Gate
gate_in code k = record {
  cell = cell_in code k;
  hold = eqb (slot code k 7) 1;
  pins = take (pin_count (cell_in code k)) (pin_in code k 0 ∷ pin_in code k 1 ∷ pin_in code k 2 ∷ pin_in code k 3 ∷ []);
}

unfoldable pub stage_gates : Counts → List ℕ → List Gate
stage_gates c code = tabulate (gate_in code) c.gates

-- ---- outputs

abbrev pub output_in : Counts → List ℕ → ℕ → Pair
output_in c code j = record { rail0 = get_or code (8 * c.gates + 2 * j) 0; rail1 = get_or code (8 * c.gates + 2 * j + 1) 0 }

unfoldable pub stage_outputs : Counts → List ℕ → List Pair
stage_outputs c code = tabulate (output_in c code) c.outputs

-- ---- care words

abbrev pub care_in : Counts → List ℕ → ℕ → ℕ
care_in c code i = get_or code (8 * c.gates + 2 * c.outputs + i) 0

unfoldable pub stage_care : Counts → List ℕ → List ℕ
stage_care c code = tabulate (care_in c code) c.care

-- ---- the stage

abbrev pub stage_in : Counts → List ℕ → Stage
stage_in c code = record { inputs = c.inputs; gates = stage_gates c code; outputs = stage_outputs c code; care = stage_care c code }

-- how many numbers it takes, and the largest
abbrev pub stage_size : Counts → ℕ
stage_size c = 8 * c.gates + 2 * c.outputs + c.care

abbrev pub largest_stage : ℕ
largest_stage = 8 * stage_limits.gates + 2 * stage_limits.outputs + 2 ^ stage_limits.inputs

-- gate k is of a known cell, and at each of its four pins stands a net or the ground
pub record GateLoaded (c : Counts) (code : List ℕ) (k : ℕ) : Type 0 where
  pub low : 1 ≤ cell_in code k
  pub high : cell_in code k ≤ 27
  pub pin : (i : ℕ) → i < 4 → pin_in code k i ≤ net_count c
  pub absent : (i : ℕ) → pin_count (cell_in code k) ≤ i → i < 4 → pin_in code k i ≡ net_count c

-- The numbers are a stage within the limits.
pub record StageLoaded (c : Counts) (code : List ℕ) : Type 0 where
  pub within : Within stage_limits c
  pub room : stage_size c ≤ length code
  pub gate : (k : ℕ) → k < c.gates → GateLoaded c code k
  pub rail0_net : (j : ℕ) → j < c.outputs → (output_in c code j).rail0 < net_count c
  pub rail1_net : (j : ℕ) → j < c.outputs → (output_in c code j).rail1 < net_count c
