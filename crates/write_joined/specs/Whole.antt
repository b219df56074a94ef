-- Two stages in a row as one: output j of the first is tied to input j of the second, rail 0 to rail 0 and rail 1 to rail 1. The same of
-- their references.
use Rattle.std.specs.Prelude.{ℕ, ◌+◌, ◌-◌, ◌*◌, ◌/◌, ◌%◌, cond, ◌++◌, map, length, get_or, eqb, ltb}
use Rattle.netlist.specs.Content.{Coded, Gate, Pair, Stage, Reference}
use Rattle.netlist.specs.Formed.{nets}
use Rattle.verdict.specs.Nets.{output_pair, rail_of}

-- ---- the stage

-- A net of the second part in the whole: rail 0 or 1 of its input j is that rail of the first part's output j, and its gates' nets follow
-- those of the first part.
unfoldable pub net_in_whole : Stage → Stage → ℕ → ℕ
net_in_whole first second net =
    cond (ltb net (2 * second.inputs)) (rail_of (output_pair first (net / 2)) (eqb (net % 2) 1)) (nets first + (net - 2 * second.inputs))

-- a gate of the second part, and an output of it
abbrev pub gate_in_whole : Stage → Stage → Gate → Gate
gate_in_whole first second g = record { cell = g.cell; hold = g.hold; pins = map (net_in_whole first second) g.pins }

abbrev pub pair_in_whole : Stage → Stage → Pair → Pair
pair_in_whole first second p = record { rail0 = net_in_whole first second p.rail0; rail1 = net_in_whole first second p.rail1 }

-- "inputs, the first part's care list, gates (first part first), the second's outputs"
unfoldable pub joined_stage : Stage → Stage → Stage
joined_stage first second = record {
  inputs = first.inputs;
  care = first.care;
  gates = first.gates ++ map (gate_in_whole first second) second.gates;
  outputs = map (pair_in_whole first second) second.outputs;
}

-- ---- the reference

-- a signal of the second part in the whole: its input j is the signal of the first part's output j, and its gates' signals follow those of
-- the first part
unfoldable pub signal_in_whole : Reference → Reference → ℕ → ℕ
signal_in_whole first second signal =
    cond (ltb signal second.inputs) (get_or first.outputs signal 0) (first.inputs + length first.gates + (signal - second.inputs))

abbrev pub operation_in_whole : Reference → Reference → Coded → Coded
operation_in_whole first second c = record { code = c.code; operands = map (signal_in_whole first second) c.operands }

unfoldable pub joined_reference : Reference → Reference → Reference
joined_reference first second = record {
  inputs = first.inputs;
  gates = first.gates ++ map (operation_in_whole first second) second.gates;
  outputs = map (signal_in_whole first second) second.outputs;
}
