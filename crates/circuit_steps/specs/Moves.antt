-- Which nets of a stage may switch in a row: a rail that is not yet at its goal, and a gate by its rule. In a rise the goal of the rails is what the word
-- calls for, in a fall all low.
use Rattle.std.specs.Prelude.{ℕ, cond, List}
use Rattle.runs.specs.Row.{Row, Rule}
use Rattle.runs.specs.Net.{Net, may_rise, may_fall, by_net}
use Rattle.netlist.specs.declared.Counts.{Counts}
use Rattle.verdict.specs.Nets.{net_of, row_of}
use Rattle.check_spec.specs.Lists.{xor}
use Rattle.circuit.specs.Stage.{stage_in}
use Rattle.circuit.specs.Rows.{nets_in}

-- a low gate rises, and a high gate falls
abbrev pub gate_moves : Net → Rule
gate_moves N r k = cond (r k) (may_fall N r k) (may_rise N r k)

abbrev pub moves : Net → Row → Rule
moves N goal r k = by_net N k (xor (r k) (goal k)) (gate_moves N r k)

-- a stage in its flat form, and rows in theirs
abbrev pub loaded_net : Counts → List ℕ → Net
loaded_net c code = net_of (stage_in c code)

abbrev pub row_in : Counts → List ℕ → Row
row_in c row = row_of (nets_in c row)
