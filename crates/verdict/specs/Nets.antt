-- A stage, its rows and its words as the theory of runs sees them.
use Rattle.std.specs.Prelude.{ℕ, ◌-◌, ◌*◌, Bool, true, false, List, [], map, length, get_or, eqb}
use Rattle.gates.specs.Expression.{holds}
use Rattle.gates.specs.Cell.{set_expression}
use Rattle.runs.specs.Row.{Row, only}
use Rattle.runs.specs.Net.{Net}
use Rattle.netlist.specs.Content.{Gate, Pair, Stage, Reference}
use Rattle.verdict.specs.Rows.{high, settled, settled_holding, with_null}
use Rattle.verdict.specs.Words.{bits_of, rails_in}
use Rattle.verdict.specs.Answers.{answer}

abbrev pub no_gate : Gate
no_gate = record { cell = 0; hold = true; pins = [] }

-- the gate that drives a net from 2n on: gate k drives net 2n + k. It is asked of no other net
abbrev pub driver : Stage → ℕ → Gate
driver s net = get_or s.gates (net - 2 * s.inputs) no_gate

-- whether a gate's set expression holds in a row; a pin that its kind lacks counts as low
abbrev pub set_in : Row → Gate → Bool
set_in row g = holds (set_expression g.cell) (λ i. get_or (map row g.pins) i false)

abbrev pub no_pair : Pair
no_pair = record { rail0 = 0; rail1 = 0 }

-- output j of a stage
abbrev pub output_pair : Stage → ℕ → Pair
output_pair s j = get_or s.outputs j no_pair

abbrev pub rail_of : Pair → Bool → ℕ
rail_of p false = p.rail0
rail_of p true = p.rail1

abbrev pub net_of : Stage → Net
net_of s = record {
  inputs = s.inputs;
  gates = length s.gates;
  outputs = length s.outputs;
  rail = λ j. rail_of (output_pair s j);
  pins = λ net. (driver s net).pins;
  fires = λ row net. set_in row (driver s net);
  hold = λ net. (driver s net).hold;
}

-- a list of levels as a row
abbrev pub row_of : List ℕ → Row
row_of levels net = high levels net

-- the rails that word w calls for, and the reference's answer to it
abbrev pub rails_for : Stage → ℕ → Row
rails_for s w = row_of (rails_in s w)

abbrev pub answer_bits : Reference → ℕ → ℕ → Bool
answer_bits r w j = eqb (get_or (answer r (bits_of r.inputs w)) j 0) 1

-- ---- the settled rows of word w that the checks look at

-- with w given: the paper's "rest"
abbrev pub rest_row : Stage → ℕ → Row
rest_row s w = row_of (settled s.gates (rails_in s w))

-- with w given and input i NULL
abbrev pub missing_row : Stage → ℕ → ℕ → Row
missing_row s w i = row_of (settled s.gates (with_null (only i) (rails_in s w)))

-- with w given and gate g held low
abbrev pub held_row : Stage → ℕ → ℕ → Row
held_row s w g = row_of (settled_holding g s.gates (rails_in s w))
