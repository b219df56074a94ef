-- What a file holds, and what two files do, with their limits.
use Rattle.std.specs.Prelude.{ℕ, ◌+◌, Bool, true, false, List, [], map}
use Rattle.netlist.specs.declared.File.{File}
use Rattle.netlist.specs.declared.Limits.{Limits}
use Rattle.netlist.specs.declared.File.TheVariants as file
use Rattle.netlist.specs.Bytes.{operands}
use Rattle.netlist.specs.Commands.{stage_file}
use Rattle.netlist.specs.Reading.{Reading, refused, readable, read_file, stage_limits, reference_limits, part_stage_limits, part_reference_limits}
use Rattle.netlist.specs.Coded.{Coded, coded_at}
use Rattle.wiring_spec.specs.Parts.{Part, part_at, Pipeline}
use Rattle.wiring_spec.specs.Wires.{resolve}

-- A stage or a reference. An output of a stage is two nets, rail 0 and rail 1; one of a reference is a signal. The care words of a stage are those
-- that are cared for; where there are none, every word is. The parts are registers and C-elements, which only the stage of a check has.
pub record Content : Type 0 where
  pub inputs : ℕ
  pub gates : List Coded
  pub outputs : List (List ℕ)
  pub care : List ℕ
  pub parts : List Part

-- how many nets or signals an output names
abbrev pub rails_of_output : File → ℕ
rails_of_output file.Stage = 2
rails_of_output file.Pipeline = 2
rails_of_output file.Reference = 1

-- what is seen through the places of its commands; a file that is refused holds nothing
unfoldable pub content_at : File → List ℕ → Reading → Content
content_at f bytes (refused number at) = record { inputs = 0; gates = []; outputs = []; care = []; parts = [] }
content_at f bytes (readable p) = record {
  inputs = p.inputs;
  gates = map (coded_at f bytes) p.gates;
  outputs = map (λ at. operands bytes (at + 1) (rails_of_output f)) p.outputs;
  care = p.care;
  parts = map (part_at bytes) p.parts;
}

abbrev pub content_of : File → Limits → List ℕ → Content
content_of f most bytes = content_at f bytes (read_file f most bytes)

-- how a stage is wired
abbrev pub pipeline_of : Content → Pipeline
pipeline_of c = record { inputs = c.inputs; gates = map (λ (g : Coded). g.operands) c.gates; parts = c.parts }

-- A stage as runs and the checks from 28 on see it, in which a register is two wires: a pin or output on a register's rail is put on the net at that
-- register's data, and again, until it is an input's rail or a gate.
unfoldable pub wired : Content → Content
wired raw = record {
  inputs = raw.inputs;
  gates = map (λ (g : Coded). record { code = g.code; operands = map (resolve (pipeline_of raw)) g.operands }) raw.gates;
  outputs = map (map (resolve (pipeline_of raw))) raw.outputs;
  care = raw.care;
  parts = [];
}

-- two files, whether the stage is read as a pipeline, which may have registers, and the limits that they are read within
pub record Files : Type 0 where
  pub stage : List ℕ
  pub reference : List ℕ
  pub registers : Bool
  pub stage_most : Limits
  pub reference_most : Limits

-- the stage as reading gives it, and as runs and the checks from 28 on see it
abbrev pub raw_in : Files → Content
raw_in f = content_of (stage_file f.registers) f.stage_most f.stage

abbrev pub stage_in : Files → Content
stage_in f = wired (raw_in f)

abbrev pub reference_in : Files → Content
reference_in f = content_of file.Reference f.reference_most f.reference

abbrev pub files_within : Bool → Limits → Limits → List ℕ → List ℕ → Files
files_within registers stage_most reference_most stage reference =
    record { stage = stage; reference = reference; registers = registers; stage_most = stage_most; reference_most = reference_most }

-- the same two files, the stage read without registers, as every call but the check reads it
abbrev pub without_registers : Files → Files
without_registers f = files_within false f.stage_most f.reference_most f.stage f.reference

-- those of the check, which alone reads registers; those of the other calls; and those of a part that is to be joined with another
abbrev pub files : List ℕ → List ℕ → Files
files = files_within true stage_limits reference_limits

abbrev pub plain_files : List ℕ → List ℕ → Files
plain_files = files_within false stage_limits reference_limits

abbrev pub part_files : List ℕ → List ℕ → Files
part_files = files_within false part_stage_limits part_reference_limits
