-- A stage and a reference as code has them loaded, as contents, and contents as code sees them.
use Rattle.std.specs.Prelude.{ℕ, List, [], ◌∷◌, map, get_or}
use Rattle.netlist.specs.Content.{Pair, Stage, Reference, gate_of}
use Rattle.netlist.specs.Writing.{coded_gate, pair_operands}
use Rattle.check_spec.specs.Content.{Content}

abbrev pub from_stage : Stage → Content
from_stage s = record { inputs = s.inputs; gates = map coded_gate s.gates; outputs = map pair_operands s.outputs; care = s.care; parts = [] }

abbrev pub from_reference : Reference → Content
from_reference r = record { inputs = r.inputs; gates = r.gates; outputs = map (λ (v : ℕ). v ∷ []) r.outputs; care = []; parts = [] }

abbrev pub pair_of : List ℕ → Pair
pair_of vs = record { rail0 = get_or vs 0 0; rail1 = get_or vs 1 0 }

abbrev pub stage_view : Content → Stage
stage_view c = record { inputs = c.inputs; gates = map gate_of c.gates; outputs = map pair_of c.outputs; care = c.care }

abbrev pub reference_view : Content → Reference
reference_view c = record { inputs = c.inputs; gates = c.gates; outputs = map (λ (vs : List ℕ). get_or vs 0 0) c.outputs }
