-- The fields of the flat form, as the functions that read them answer them: each with what a loaded circuit says of it.
use Rattle.std.specs.Prelude.{ℕ, ◌+◌, ◌*◌, ◌≤◌, ◌<◌, ◌≡◌, List, length, get_or}
use Rattle.gates.specs.Cell.{pin_count}
use Rattle.netlist.specs.declared.Counts.{Counts}
use Rattle.circuit.specs.declared.form.Pins.{Pins}
use Rattle.circuit.specs.declared.form.Rails.{Rails}
use Rattle.circuit.specs.declared.form.Operands.{Operands}
use Rattle.circuit.specs.Stage.{net_count, cell_in, pin_in, gate_at_place, place_of, output_in, care_in}
use Rattle.circuit.specs.Reference.{operation_in, operand_in, signal_in}

-- ---- a stage

-- the cell of gate k
pub record CellAt (code : List ℕ) (k r : ℕ) : Type 0 where
  pub is : r ≡ cell_in code k
  pub low : 1 ≤ r
  pub high : r ≤ 27

-- how many pins it has
pub record PinCountAt (code : List ℕ) (k r : ℕ) : Type 0 where
  pub is : r ≡ pin_count (cell_in code k)
  pub some : 1 ≤ r
  pub most : r ≤ 4

-- the nets at its pins
abbrev pub pins_in : List ℕ → ℕ → Pins
pins_in code k = record { a = pin_in code k 0; b = pin_in code k 1; c = pin_in code k 2; d = pin_in code k 3 }

pub record PinsAt (counts : Counts) (code : List ℕ) (k : ℕ) (r : Pins) : Type 0 where
  pub is : r ≡ pins_in code k
  pub a_in : r.a ≤ net_count counts
  pub b_in : r.b ≤ net_count counts
  pub c_in : r.c ≤ net_count counts
  pub d_in : r.d ≤ net_count counts

-- the net at pin i
pub record PinAt (counts : Counts) (code : List ℕ) (k i r : ℕ) : Type 0 where
  pub is : r ≡ pin_in code k i
  pub there : r ≤ net_count counts

-- the gate at place i of the order
pub record GateAt (counts : Counts) (code : List ℕ) (i r : ℕ) : Type 0 where
  pub is : r ≡ gate_at_place code i
  pub there : r < counts.gates

-- the rails of output j
abbrev pub rails_in : Counts → List ℕ → ℕ → Rails
rails_in counts code j = record { rail0 = (output_in counts code j).rail0; rail1 = (output_in counts code j).rail1 }

pub record RailsAt (counts : Counts) (code : List ℕ) (j : ℕ) (r : Rails) : Type 0 where
  pub is : r ≡ rails_in counts code j
  pub rail0_in : r.rail0 < net_count counts
  pub rail1_in : r.rail1 < net_count counts

-- care word i
pub record CareAt (counts : Counts) (code : List ℕ) (i r : ℕ) : Type 0 where
  pub is : r ≡ care_in counts code i
  pub small : r < 0x10000

-- ---- the order of its gates

-- number i of the code is none of the order
abbrev pub Apart : Counts → ℕ → Type 0
Apart c i = (k : ℕ) → k < c.gates → ¬ (i ≡ 8 * k + 5) × ¬ (i ≡ 8 * k + 6)

-- the code differs from what it was in the order alone
pub record Reordered (c : Counts) (before code : List ℕ) : Type 0 where
  pub long : length code ≡ length before
  pub kept : (i : ℕ) → Apart c i → get_or code i 0 ≡ get_or before i 0

-- Gate k has taken place i of the order; other gates and other places are as they were.
pub record GatePlaced (c : Counts) (before code : List ℕ) (k i : ℕ) : Type 0 where
  pub reordered : Reordered c before code
  pub gate_new : gate_at_place code i ≡ k
  pub gate_old : (j : ℕ) → ¬ (j ≡ i) → gate_at_place code j ≡ gate_at_place before j
  pub place_new : place_of code k ≡ i
  pub place_old : (m : ℕ) → ¬ (m ≡ k) → place_of code m ≡ place_of before m

-- ---- a reference

-- the operation of gate k
pub record OperationAt (code : List ℕ) (k r : ℕ) : Type 0 where
  pub is : r ≡ operation_in code k
  pub low : 1 ≤ r
  pub high : r ≤ 6

-- its operands
abbrev pub operands_in : List ℕ → ℕ → Operands
operands_in code k = record { a = operand_in code k 0; b = operand_in code k 1 }

pub record OperandsAt (sizes : Counts) (code : List ℕ) (k : ℕ) (r : Operands) : Type 0 where
  pub is : r ≡ operands_in code k
  pub a_in : r.a < sizes.inputs + k
  pub b_in : r.b < sizes.inputs + k

-- the signal of output j
pub record SignalAt (sizes : Counts) (code : List ℕ) (j r : ℕ) : Type 0 where
  pub is : r ≡ signal_in sizes code j
  pub there : r < sizes.inputs + sizes.gates
