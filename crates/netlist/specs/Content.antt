-- What a readable file holds: the parsed stage and the parsed reference, as views of the file through the places of its commands.
use Rattle.std.specs.Prelude.{ℕ, ◌+◌, Bool, List, map}
use Rattle.gates.specs.Cell.{kind_of}
use Rattle.netlist.specs.Types.file
use Rattle.netlist.specs.Bytes.{operand}
use Rattle.netlist.specs.Reading.{Places}
pub use Rattle.netlist.specs.Coded.{Coded, coded_at, cell_of, hold_of}

-- a gate of a stage: its cell, 1 to 27; whether it has hold; and the nets at the pins that it has, from A on
pub record Gate : Type 0 where
  pub cell : ℕ
  pub hold : Bool
  pub pins : List ℕ

-- an output of a stage: two nets
pub record Pair : Type 0 where
  pub rail0 : ℕ
  pub rail1 : ℕ

-- the care words of a stage are those that are cared for; where it has none, every word is
pub record Stage : Type 0 where
  pub inputs : ℕ
  pub gates : List Gate
  pub outputs : List Pair
  pub care : List ℕ

abbrev pub gate_of : Coded → Gate
gate_of c = record { cell = cell_of (kind_of c.code); hold = hold_of (kind_of c.code); pins = c.operands }

abbrev pub pair_at : List ℕ → ℕ → Pair
pair_at s at = record { rail0 = operand s (at + 1); rail1 = operand s (at + 3) }

-- registers and C-elements, where the file has some, are not in it
unfoldable pub stage_of : List ℕ → Places → Stage
stage_of s p = record {
  inputs = p.inputs;
  gates = map (λ at. gate_of (coded_at file.Stage s at)) p.gates;
  outputs = map (pair_at s) p.outputs;
  care = p.care;
}

-- a gate of a reference is its operation, 1 to 6, with one or two signals; an output is a signal
pub record Reference : Type 0 where
  pub inputs : ℕ
  pub gates : List Coded
  pub outputs : List ℕ

unfoldable pub reference_of : List ℕ → Places → Reference
reference_of s p = record { inputs = p.inputs; gates = map (coded_at file.Reference s) p.gates; outputs = map (λ at. operand s (at + 1)) p.outputs }
