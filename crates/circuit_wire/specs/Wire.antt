-- Registers as wires in the flat form: the stage as the file has it becomes the one in which each pin and each rail has the net that its own comes from.
-- Number 7 of the row of a net after the gates is the net that it comes from through all registers.
use Rattle.std.specs.Prelude.{ℕ, ◌+◌, ◌*◌, ◌-◌, ◌/◌, ◌%◌, ◌≤◌, ◌<◌, ◌≡◌, Bool, true, false, cond, List, map, length, get_or, eqb, leb, ltb}
use Rattle.gates.specs.Cell.{pin_count}
use Rattle.netlist.specs.declared.Counts.{Counts}
use Rattle.netlist.specs.Bytes.{absent}
use Rattle.netlist.specs.Reading.{stage_limits, Within}
use Rattle.netlist.specs.Content.{Gate, Pair, Stage}
use Rattle.circuit.specs.Stage.{net_count, cell_in, pin_in, stage_gates, output_in}
use Rattle.wiring_spec.specs.Parts.{Pipeline}
use Rattle.wiring_spec.specs.Named.{IsData, Named}
use Rattle.wiring_spec.specs.Tables.{slot}
use Rattle.wiring_spec.specs.Wires.{times}

-- The stage of a pipeline as the file has it, in the flat form of circuits: its pins and rails name nets of registers too, and a pin that a kind lacks has
-- FFFF.
pub record RawLoaded (p : Pipeline) (c : Counts) (code : List ℕ) : Type 0 where
  pub within : Within stage_limits c
  pub room : 8 * c.gates + 2 * c.outputs + c.care ≤ length code
  pub low : (k : ℕ) → k < c.gates → 1 ≤ cell_in code k
  pub high : (k : ℕ) → k < c.gates → cell_in code k ≤ 27
  pub inputs_are : p.inputs ≡ c.inputs
  pub pins_are : p.gates ≡ map (λ (g : Gate). g.pins) (stage_gates c code)
  pub lacks : (k i : ℕ) → k < c.gates → pin_count (cell_in code k) ≤ i → i < 4 → pin_in code k i ≡ absent
  pub rail0 : (j : ℕ) → j < c.outputs → IsData p (output_in c code j).rail0
  pub rail1 : (j : ℕ) → j < c.outputs → IsData p (output_in c code j).rail1
  pub named : Named p

-- ---- along wires

-- the net that a rail of a register comes from; any other net is its own
unfoldable pub wire_in : List ℕ → ℕ → ℕ → ℕ
wire_in nets first x =
    let i = x - first in
    cond (ltb x first) x (cond (leb (length nets / 8) i) x (cond (eqb (slot nets i 0) 1) (slot nets i 1) x))

-- the nets before row i have the net that they come from; nothing else is new
pub record ResolvedTo (before nets : List ℕ) (first registers i : ℕ) : Type 0 where
  pub long : length nets ≡ length before
  pub kept : (k j : ℕ) → j < 7 → slot nets k j ≡ slot before k j
  pub done : (k : ℕ) → k < i → slot nets k 7 ≡ times registers (wire_in before first) (first + k)

-- ---- the wired stage

-- what a pin or a rail names in it: the net that its own comes from; the ground, which is the net after the gates, where its own is none
unfoldable pub wired_net : List ℕ → ℕ → ℕ → ℕ
wired_net nets first x =
    let i = x - first in
    cond (ltb x first) x (cond (leb (length nets / 8) i) first (slot nets i 7))

-- number i of the code of a stage names a net, where its gates have so many numbers: a gate's numbers 1 to 4, and all that follow the gates
unfoldable pub names_net : ℕ → ℕ → Bool
names_net gates i = cond (ltb i gates) (cond (eqb (i % 8) 0) false (leb (i % 8) 4)) true

-- number i of the code, where it was v
unfoldable pub wired_number : List ℕ → Counts → ℕ → ℕ → ℕ
wired_number nets c i v = cond (names_net (8 * c.gates) i) (wired_net nets (net_count c) v) v

-- the numbers before i are those of the wired stage, the others stay
pub record WiredTo (nets : List ℕ) (c : Counts) (raw before code : List ℕ) (i : ℕ) : Type 0 where
  pub long : length code ≡ length before
  pub done : (j : ℕ) → j < i → get_or code j 0 ≡ wired_number nets c j (get_or raw j 0)
  pub rest : (j : ℕ) → i ≤ j → get_or code j 0 ≡ get_or before j 0

-- the first i numbers of a code are those of another
pub record CopiedTo (from before code : List ℕ) (i : ℕ) : Type 0 where
  pub long : length code ≡ length before
  pub done : (j : ℕ) → j < i → get_or code j 0 ≡ get_or from j 0

-- the gates of a stage by themselves: it has no outputs and no care words
abbrev pub bare : Counts → Counts
bare c = record { inputs = c.inputs; gates = c.gates; outputs = 0; care = 0; floor = 0; registers = 0; elements = 0 }

-- a stage with other nets at its pins and outputs
abbrev pub gate_by : (ℕ → ℕ) → Gate → Gate
gate_by f g = record { cell = g.cell; hold = g.hold; pins = map f g.pins }

abbrev pub pair_by : (ℕ → ℕ) → Pair → Pair
pair_by f o = record { rail0 = f o.rail0; rail1 = f o.rail1 }

abbrev pub stage_by : (ℕ → ℕ) → Stage → Stage
stage_by f s = record { inputs = s.inputs; gates = map (gate_by f) s.gates; outputs = map (pair_by f) s.outputs; care = s.care }
