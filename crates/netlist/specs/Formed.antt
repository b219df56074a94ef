-- Well-formed stages without registers, and references: what those of readable files are, and what a file can hold.
use Rattle.std.specs.Prelude.{ℕ, suc, ◌+◌, ◌*◌, ◌^◌, ◌≤◌, ◌<◌, ◌≡◌, List, [], ◌∷◌, length}
use Rattle.gates.specs.Cell.{pin_count}
use Rattle.netlist.specs.Types.{Limits}
use Rattle.netlist.specs.Types.file
use Rattle.netlist.specs.Commands.{needed}
use Rattle.netlist.specs.Reading.{Ascending}
use Rattle.netlist.specs.Content.{Coded, Gate, Pair, Stage, Reference}
use Rattle.netlist.specs.Writing.{All}

-- ---- stages

-- with so many nets: a cell of the 27, and a net at each of its pins
pub record CellFormed (nets : ℕ) (g : Gate) : Type 0 where
  pub cell_in : (1 ≤ g.cell) × (g.cell ≤ 27)
  pub whole : length g.pins ≡ pin_count g.cell
  pub pins_in_holds : All (λ v. v < nets) g.pins

pub record RailsFormed (nets : ℕ) (p : Pair) : Type 0 where
  pub rail0_in : p.rail0 < nets
  pub rail1_in : p.rail1 < nets

abbrev pub nets : Stage → ℕ
nets c = 2 * c.inputs + length c.gates

pub record StageFormed (most : Limits) (c : Stage) : Type 0 where
  pub inputs_in : (1 ≤ c.inputs) × (c.inputs ≤ most.inputs)
  pub gates_in_holds : length c.gates ≤ most.gates
  pub outputs_in_holds : (1 ≤ length c.outputs) × (length c.outputs ≤ most.outputs)
  pub gates_formed : All (CellFormed (nets c)) c.gates
  pub outputs_formed : All (RailsFormed (nets c)) c.outputs
  pub care_in_holds : Ascending (2 ^ c.inputs) 0 c.care

-- ---- references

-- an operation of the six, whose operands are signals below a number
pub record OperationFormed (below : ℕ) (c : Coded) : Type 0 where
  pub operation_in_holds : (1 ≤ c.code) × (c.code ≤ 6)
  pub whole : length c.operands ≡ needed file.Reference c.code
  pub operands_in_holds : All (λ v. v < below) c.operands

-- gates in order: the operands of each are inputs or earlier gates; the first drives signal `below`
abbrev pub FormedFrom : ℕ → List Coded → Type 0
FormedFrom below [] = Unit {0}
FormedFrom below (c ∷ cs) = OperationFormed below c × FormedFrom (suc below) cs

pub record ReferenceFormed (most : Limits) (r : Reference) : Type 0 where
  pub inputs_in : (1 ≤ r.inputs) × (r.inputs ≤ most.inputs)
  pub gates_in_holds : length r.gates ≤ most.gates
  pub outputs_in_holds : (1 ≤ length r.outputs) × (length r.outputs ≤ most.outputs)
  pub gates_formed : FormedFrom r.inputs r.gates
  pub outputs_formed : All (λ v. v < r.inputs + length r.gates) r.outputs
