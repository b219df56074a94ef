-- A stage as a net, and its settled rows.
use Rattle.std.specs.Prelude.{ℕ, zero, suc, ◌-◌, ◌*◌, Bool, true, false, cond, not, ◌&&◌, ◌||◌, List, [], map, length, get_or, eqb, ltb}
use Rattle.gates.specs.Expression.{holds}
use Rattle.gates.specs.Cell.{set_expression, kind_of, bit}
use Rattle.runs.specs.Row.{Row, low, ◌∖◌}
use Rattle.runs.specs.Net.{Net, nets, rails, rise_up, fall_down}
use Rattle.netlist.specs.Coded.{Coded, cell_of, hold_of}
use Rattle.check_spec.specs.Content.{Content}
use Rattle.check_spec.specs.Lists.{xor, numbers, every, reaches}

-- what stands where there is no gate: it has no pins, so that 12 ends at a net of a register or a C-element
abbrev pub no_gate : Coded
no_gate = record { code = 1; operands = [] }

-- the gate that drives a net: gate k drives net 2n + k, and none the nets after these; it is not asked of a rail
abbrev pub driver : Content → ℕ → Coded
driver s net = get_or s.gates (net - 2 * s.inputs) no_gate

-- a gate's cell, 1 to 27, and whether its set expression holds in a row; a pin that it lacks counts as low
abbrev pub cell_in : Coded → ℕ
cell_in g = cell_of (kind_of g.code)

abbrev pub set_in : Row → Coded → Bool
set_in row g = holds (set_expression (cell_in g)) (λ i. get_or (map row g.operands) i false)

abbrev pub net_of : Content → Net
net_of s = record {
  inputs = s.inputs;
  gates = length s.gates;
  outputs = length s.outputs;
  rail = λ j b. get_or (get_or s.outputs j []) (bit b) 0;
  pins = λ net. (driver s net).operands;
  fires = λ row net. set_in row (driver s net);
  hold = λ net. hold_of (kind_of (driver s net).code);
}

-- ---- settled rows

-- a step, taken k times from all low
unfoldable pub rounds : (Row → Row) → ℕ → Row
rounds step zero = low
rounds step (suc k) = step (rounds step k)

-- Settled for the rails c with the nets of X held low: the rest of a word, with an input NULL, with a gate held low. One round for the rails and one for
-- each gate; that a stage without loops has this row and no other is a theorem
unfoldable pub risen : Net → Row → Row → Row
risen N c X = rounds (λ r. rise_up N c r ∖ X) (suc N.gates)

-- settled by the fall rule from row R with the nets of X kept: a net of R stays high where it is kept or its gate may not fall. That a stage without loops
-- has this row and no other is a theorem too
unfoldable pub fallen : Net → Row → Row → Row
fallen N R X = rounds (λ r k. R k && (X k || not (fall_down N r k))) (suc N.gates)

-- ---- what a check asks of a row

-- an output pair is DATA of bit b: rail b is high and the other is low; every pair is DATA, or NULL
abbrev pub data_of : Row → (Bool → ℕ) → Bool → Bool
data_of r p b = r (p b) && not (r (p (not b)))

abbrev pub all_data : Net → Row → Bool
all_data N r = every (λ j. xor (r (N.rail j false)) (r (N.rail j true))) (numbers 0 N.outputs)

abbrev pub all_null : Net → Row → Bool
all_null N r = every (λ j. not (r (N.rail j false) || r (N.rail j true))) (numbers 0 N.outputs)

-- the nets at the pins of the gate that drives a net, none for a rail or a net after the gates; net g reaches itself through these
abbrev pub feeding : Net → ℕ → List ℕ
feeding N net = cond (ltb net (rails N)) [] (N.pins net)

unfoldable pub reaches_itself : Net → ℕ → Bool
reaches_itself N g = reaches (feeding N) (eqb g) (nets N) g
