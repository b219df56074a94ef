-- The parts that the text of a loaded stage is put in.
use Rattle.std.specs.Prelude.{ℕ, ◌+◌, ◌*◌, List, map}
use Rattle.gates.specs.Cell.{kind_byte}
use Rattle.netlist.specs.declared.Counts.{Counts}
use Rattle.netlist.specs.Writing.{coded_gate}
use Rattle.circuit.specs.Stage.{cell_in, gate_in, stage_gates, stage_outputs}
use Rattle.text_spec.specs.Characters.{comma, range}
use Rattle.text_spec.specs.ToText.{x, net_name, join, ended, output_names, gate_text, gate_texts}

-- ---- lines of names

abbrev pub input_names : ℕ → List ℕ
input_names n = join comma (map x (range 0 n))

abbrev pub output_names_in : Counts → List ℕ → List ℕ
output_names_in c code = join comma (output_names c.inputs 0 (stage_outputs c code))

-- ---- gate lines

abbrev pub kind_in : List ℕ → ℕ → ℕ
kind_in code k = kind_byte (cell_in code k) (gate_in code k).hold

abbrev pub pin_names : Counts → List ℕ → ℕ → List ℕ
pin_names c code k = join comma (map (net_name c.inputs (stage_outputs c code)) (gate_in code k).pins)

-- the line of gate k, without its newline
abbrev pub gate_line : Counts → List ℕ → ℕ → List ℕ
gate_line c code k = gate_text c.inputs (stage_outputs c code) (2 * c.inputs + k) (coded_gate (gate_in code k))

-- all gate lines, each with its newline
abbrev pub gate_lines : Counts → List ℕ → List ℕ
gate_lines c code = ended (gate_texts c.inputs (stage_outputs c code) (2 * c.inputs) (map coded_gate (stage_gates c code)))
