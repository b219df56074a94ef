-- What the functions of this crate leave: a drawn gate.
use Rattle.std.specs.Prelude.{◌≡◌, ℕ, ◌<◌, Bool, cond, not, List, [], ◌∷◌, ◌==◌, ◌≢◌}
use Rattle.netlist.specs.declared.File.TheVariants as file
use Rattle.netlist.specs.Writing.{gate, write_item}
use Rattle.verdict.specs.Rows.{high}
use Rattle.write_command.specs.Put.{coded}
use Rattle.draw_spec.specs.Draws.{gate_from, after_gate}
use Rattle.call_draw.specs.declared.Gate.{Gate}

-- the operands that a drawn gate has: NOT, 1, has only the first
abbrev pub operands_of : Gate → List ℕ
operands_of r = cond (r.operation == 1) (r.first ∷ []) (r.first ∷ r.second ∷ [])

-- r is the gate that is drawn from state s after so many signals, with the state after it
pub record GateDrawn (signals s : ℕ) (r : Gate) : Type 0 where
  pub command : write_item file.Reference (gate (coded r.operation (r.first ∷ r.second ∷ []))) ≡ write_item file.Reference (gate (gate_from signals s))
  pub operands : (gate_from signals s).operands ≡ operands_of r
  pub state : r.state ≡ after_gate s
  pub first_in : r.first < signals
  pub second_in : (r.operation ≢ 1) → r.second < signals

-- signal x has no mark
abbrev pub unmarked : List ℕ → ℕ → Bool
unmarked marks x = not (high marks x)
