-- Registers and C-elements as code has them, in two tables. Eight numbers stand for each net after the gates: its sort (1 a rail of a register, 2 a Ko,
-- 3 a C-element), four pins (of a rail the net at its data first; FFFF at a pin that a C-element lacks), its place in an order of the C-elements, the
-- number of its register, and one that is free. Four numbers stand for each register: the net of its rail 0, the nets at its data, and the net at its Ki;
-- its rail 1 is the net after its rail 0.
use Rattle.std.specs.Prelude.{ℕ, ◌+◌, ◌*◌, ◌≤◌, ◌<◌, ◌≡◌, Bool, true, false, List, map, length, get_or}
use Rattle.gates.specs.Cell.{bit}
use Rattle.netlist.specs.declared.File.TheVariants as file
use Rattle.netlist.specs.Bytes.{absent}
use Rattle.netlist.specs.Reading.{Places}
use Rattle.netlist.specs.Coded.{coded_at}
use Rattle.wiring_spec.specs.Parts.{part_at, Driver, input, gate, rail, acknowledge, completion, nothing}
use Rattle.wiring_spec.specs.Parts.{Pipeline, register_count, data_of, ki_of, driver_of, all_nets}
use Rattle.wiring_spec.specs.Named.{Named}

-- how the stage of a readable file is wired, by the places of its commands
abbrev pub wiring_of : List ℕ → Places → Pipeline
wiring_of bytes p = record {
  inputs = p.inputs;
  gates = map (λ at. (coded_at file.Stage bytes at).operands) p.gates;
  parts = map (part_at bytes) p.parts;
}

-- ---- the two tables

-- number j of row i
abbrev pub slot : List ℕ → ℕ → ℕ → ℕ
slot nets i j = get_or nets (8 * i + j) 0

-- row i is that of what drives its net
abbrev pub RowOf : Pipeline → List ℕ → ℕ → Driver → Type 0
RowOf p nets i input = ⊥
RowOf p nets i (gate pins) = ⊥
RowOf p nets i (rail k b) = (slot nets i 0 ≡ 1) × (slot nets i 1 ≡ get_or (data_of p k) (bit b) 0) × (slot nets i 6 ≡ k)
RowOf p nets i (acknowledge k) = (slot nets i 0 ≡ 2) × (slot nets i 6 ≡ k)
RowOf p nets i (completion pins) = (slot nets i 0 ≡ 3) × (1 ≤ length pins) × (length pins ≤ 4) × ((j : ℕ) → j < 4 → slot nets i (1 + j) ≡ get_or pins j absent)
RowOf p nets i nothing = ⊥

-- the number that a register has in its row: 0 the net of its rail 0, 1 and 2 those at its data, 3 that at its Ki
abbrev pub register_slot : List ℕ → ℕ → ℕ → ℕ
register_slot regs k j = get_or regs (4 * k + j) 0

pub record RegisterRow (p : Pipeline) (regs : List ℕ) (k : ℕ) : Type 0 where
  pub rail0_net : driver_of p (register_slot regs k 0) ≡ rail k false
  pub rail1_net : driver_of p (register_slot regs k 0 + 1) ≡ rail k true
  pub data_net : (b : Bool) → register_slot regs k (1 + bit b) ≡ get_or (data_of p k) (bit b) 0
  pub ki_net : register_slot regs k 3 ≡ ki_of p k

-- the tables are those of a pipeline, in which every operand names what its role asks for; `first` is the first net after the gates, and `count` nets follow
pub record PartsLoaded (p : Pipeline) (first count : ℕ) (nets regs : List ℕ) : Type 0 where
  pub first-is : first ≡ 2 * p.inputs + length p.gates
  pub all_nets_holds : first + count ≡ all_nets p
  pub few : register_count p ≤ 64
  pub row : (i : ℕ) → i < count → RowOf p nets i (driver_of p (first + i))
  pub register_row : (k : ℕ) → k < register_count p → RegisterRow p regs k
  pub named : Named p
