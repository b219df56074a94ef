-- A pipeline in its flat form: the stage as the file has it, with an order of its gates, and the tables of its registers and C-elements.
use Rattle.std.specs.Prelude.{ℕ, ◌+◌, ◌*◌, ◌≤◌, ◌≡◌, List, length, take}
use Rattle.netlist.specs.declared.Counts.{Counts}
use Rattle.netlist.specs.Reading.{stage_limits, Within}
use Rattle.wiring_spec.specs.Parts.{Pipeline, register_count}
use Rattle.wiring_spec.specs.Wiring.{circular}
use Rattle.wiring_spec.specs.Passing.{Nowhere}
use Rattle.wiring_spec.specs.Tables.{slot, PartsLoaded}
use Rattle.circuit.specs.Stage.{net_count, stage_gates}
use Rattle.circuit.specs.Order.{TopologicalOrder, order_in}
use Rattle.circuit_place.specs.Placing.{Passed}
use Rattle.circuit_wire.specs.Wire.{RawLoaded}
use Rattle.check_levels.specs.Graph.{SourcesOf}

-- a register has three nets, a C-element one
abbrev pub part_nets : Counts → ℕ
part_nets c = 3 * c.registers + c.elements

pub record Loaded (c : Counts) (raw order nets regs : List ℕ) : Type 0 where
  pub pipeline : Pipeline
  pub registers_are : register_count pipeline ≡ c.registers
  pub few_elements : c.elements ≤ 64
  pub raw_loaded : RawLoaded pipeline c raw
  pub parts : PartsLoaded pipeline (net_count c) (part_nets c) nets regs
  pub long : length nets ≡ 8 * part_nets c
  pub regs_room : 4 * c.registers ≤ length regs
  pub order_room : 8 * c.gates ≤ length order
  pub in_order : TopologicalOrder c.inputs (stage_gates c raw) (order_in c order)

-- no C-element has a place
abbrev pub Unplaced : List ℕ → Type 0
Unplaced nets = (i : ℕ) → slot nets i 5 ≡ 0

-- the tables of a pipeline in which each C-element that can have a place has one
pub record Ordered (p : Pipeline) (c : Counts) (nets regs : List ℕ) : Type 0 where
  pub registers_are : register_count p ≡ c.registers
  pub few_elements : c.elements ≤ 64
  pub within : Within stage_limits c
  pub parts : PartsLoaded p (net_count c) (part_nets c) nets regs
  pub long : length nets ≡ 8 * part_nets c
  pub regs_room : 4 * c.registers ≤ length regs
  pub before : List ℕ
  pub placed : ℕ
  pub passed : Passed before nets (net_count c) (part_nets c) placed placed

-- the first pass of 33 finds nothing, and the registers that reach each are known
pub record Forward (c : Counts) (raw order nets regs sources : List ℕ) : Type 0 where
  pub loaded : Loaded c raw order nets regs
  pub ordered : Ordered loaded.pipeline c nets regs
  pub none : Nowhere loaded.pipeline (circular loaded.pipeline)
  pub sources_are : SourcesOf loaded.pipeline (take c.registers sources)
