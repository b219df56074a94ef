-- A stage file as loading leaves it, and the stage that the checks leave in its place.
use Rattle.std.specs.Prelude.{ℕ, ◌*◌, ◌≤◌, ◌≡◌, Bool, List, length}
use Rattle.netlist.specs.declared.Limits.{Limits}
use Rattle.netlist.specs.declared.Counts.{Counts}
use Rattle.netlist.specs.Commands.{stage_file, most_parts}
use Rattle.netlist.specs.Reading.{Places, counts_of, readable, read_file, stage_limits, NoMore}
use Rattle.netlist.specs.Content.{Stage}
use Rattle.wiring_spec.specs.Parts.{Pipeline, register_count}
use Rattle.wiring_spec.specs.Tables.{PartsLoaded}
use Rattle.check_spec.specs.Content.{Content, content_at}
use Rattle.circuit.specs.Stage.{net_count, stage_in, StageLoaded}
use Rattle.circuit.specs.Order.{InOrder}
use Rattle.circuit_wire.specs.Wire.{RawLoaded}
use Rattle.circuit_load.specs.Parts.{PipelineHeld}
use Rattle.check_wiring.specs.Loaded.{part_nets, Unplaced}

-- the stage of a file that was read, and its registers and C-elements in two tables
pub record StageHeld (c : Counts) (code nets regs : List ℕ) : Type 0 where
  pub registers : Bool
  pub most : Limits
  pub less : NoMore most stage_limits
  pub bytes : List ℕ
  pub places : Places
  pub reads : read_file (stage_file registers) most bytes ≡ readable places
  pub counted : c ≡ counts_of places
  pub held : PipelineHeld bytes places code nets regs

-- there is room for the most registers and C-elements in them
pub record Roomy (nets regs : List ℕ) : Type 0 where
  pub nets_room : 32 * most_parts ≤ length nets
  pub registers_room : 4 * most_parts ≤ length regs

-- what that file holds
abbrev pub content_in : {c : Counts} {code nets regs : List ℕ} → StageHeld c code nets regs → Content
content_in h = content_at (stage_file h.registers) h.bytes (readable h.places)

-- a stage with registers: as the file has it, with both tables, in which no C-element has a place yet
pub record RegistersHeld (c : Counts) (code nets regs : List ℕ) : Type 0 where
  pub pipeline : Pipeline
  pub registers_are : register_count pipeline ≡ c.registers
  pub few_elements : c.elements ≤ 64
  pub raw_loaded : RawLoaded pipeline c code
  pub parts : PartsLoaded pipeline (net_count c) (part_nets c) nets regs
  pub long : length nets ≡ 8 * part_nets c
  pub regs_room : 4 * c.registers ≤ length regs
  pub unplaced : Unplaced nets

-- a stage is loaded, and its gates are in order
pub record StageOrdered (c : Counts) (code : List ℕ) (s : Stage) : Type 0 where
  pub loaded : StageLoaded c code
  pub ordered : InOrder c code
  pub same : stage_in c code ≡ s
