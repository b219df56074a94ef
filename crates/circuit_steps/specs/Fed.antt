-- For each net, a net below which no gate has it at a pin.
use Rattle.std.specs.Prelude.{ℕ, ◌+◌, ◌*◌, ◌≤◌, ◌<◌, List, length, get_or}
use Rattle.netlist.specs.declared.Counts.{Counts}
use Rattle.circuit.specs.Stage.{net_count, pin_in}

-- so far as the gates from gate k on go
pub record FedFrom (c : Counts) (code : List ℕ) (k : ℕ) (fed : List ℕ) : Type 0 where
  pub long : net_count c < length fed
  pub least : (g i : ℕ) → k ≤ g → g < c.gates → i < 4 → get_or fed (pin_in code g i) 0 ≤ 2 * c.inputs + g
