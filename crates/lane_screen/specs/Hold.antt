-- Stages without relaxed kinds.
use Rattle.std.specs.Prelude.{ℕ, ◌<◌, ◌≡◌, true, length, get_or}
use Rattle.netlist.specs.Content.{Stage}
use Rattle.verdict.specs.Nets.{no_gate}

-- every gate has hold
abbrev pub WithHold : Stage → Type 0
WithHold s = (g : ℕ) → g < length s.gates → (get_or s.gates g no_gate).hold ≡ true
