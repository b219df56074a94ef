-- The nets and the signals of a part at their places in the whole. The first part stays where it is; of the second, the inputs are the outputs
-- of the first, and the gates follow those of the first.
use Rattle.std.specs.Prelude.{ℕ, ◌+◌, ◌-◌, ◌*◌, ◌/◌, ◌%◌, ◌≤◌, ◌<◌, cond, List, map, get_or, eqb, ltb}
use Rattle.netlist.specs.declared.Counts.{Counts}
use Rattle.netlist.specs.Content.{Coded, Gate, Pair, Stage, Reference}
use Rattle.verdict.specs.Nets.{output_pair, rail_of}
use Rattle.circuit.specs.Stage.{net_count, StageLoaded}
use Rattle.circuit.specs.Reference.{ReferenceLoaded}
use Rattle.write_joined.specs.declared.Move.{Move}

-- ---- a stage

-- A net of a part: a rail of one of the inputs that a move names is that rail of the first part's output, and the other nets stand from the
-- move's start on.
unfoldable pub net_moved : Stage → Move → ℕ → ℕ
net_moved first m net = cond (ltb net (2 * m.inputs)) (rail_of (output_pair first (net / 2)) (eqb (net % 2) 1)) (m.start + (net - 2 * m.inputs))

abbrev pub gate_moved : Stage → Move → Gate → Gate
gate_moved first m g = record { cell = g.cell; hold = g.hold; pins = map (net_moved first m) g.pins }

abbrev pub pair_moved : Stage → Move → Pair → Pair
pair_moved first m p = record { rail0 = net_moved first m p.rail0; rail1 = net_moved first m p.rail1 }

-- what a move asks of the first part, and of the counts of the part that is moved: the first has the outputs, and the nets fit an operand
pub record StageMoves (c sizes : Counts) (first : List ℕ) (m : Move) : Type 0 where
  pub loaded : StageLoaded sizes first
  pub outputs : m.inputs ≤ sizes.outputs
  pub fits : m.start + net_count c < 0xFFFF

-- ---- a reference

unfoldable pub signal_moved : Reference → Move → ℕ → ℕ
signal_moved first m signal = cond (ltb signal m.inputs) (get_or first.outputs signal 0) (m.start + (signal - m.inputs))

abbrev pub operation_moved : Reference → Move → Coded → Coded
operation_moved first m c = record { code = c.code; operands = map (signal_moved first m) c.operands }

pub record ReferenceMoves (c sizes : Counts) (first : List ℕ) (m : Move) : Type 0 where
  pub loaded : ReferenceLoaded sizes first
  pub outputs : m.inputs ≤ sizes.outputs
  pub fits : m.start + (c.inputs + c.gates) < 0xFFFF
