-- Gates that reach themselves through pins (12).
use Rattle.std.specs.Prelude.{ℕ, ◌+◌, ◌-◌, ◌*◌, ◌<◌, Bool, false, cond, ◌≡◌, List, [], map, length, get_or, ltb}
use Rattle.netlist.specs.Content.{Gate}
use Rattle.verdict.specs.Graph.{OnLoop, on_loop}
pub use Rattle.verdict.specs.Graph.{In}

abbrev pub pins_at : List Gate → ℕ → List ℕ
pins_at gates k = get_or (map (λ (g : Gate). g.pins) gates) k []

-- with n inputs: the net of gate j is at a pin of gate k
abbrev pub Feeds : ℕ → List Gate → ℕ → ℕ → Type 0
Feeds n gates j k = In (2 * n + j) (pins_at gates k)

-- with n inputs: the nets at the pins of the gate that drives net x; none for a rail
unfoldable pub gate_steps : ℕ → List Gate → ℕ → List ℕ
gate_steps n gates x = cond (ltb x (2 * n)) [] (pins_at gates (x - 2 * n))

-- gate g reaches itself through pins; and the test of it
abbrev pub ReachesItself : ℕ → List Gate → ℕ → Type 0
ReachesItself n gates g = OnLoop (gate_steps n gates) (2 * n + g)

unfoldable pub reaches_itself : ℕ → List Gate → ℕ → Bool
reaches_itself n gates g = on_loop (gate_steps n gates) (2 * n + length gates) (2 * n + g)

-- no gate reaches itself; and by the test
abbrev pub NoLoop : ℕ → List Gate → Type 0
NoLoop n gates = (g : ℕ) → g < length gates → ¬ (ReachesItself n gates g)

abbrev pub LoopFree : ℕ → List Gate → Type 0
LoopFree n gates = (g : ℕ) → g < length gates → reaches_itself n gates g ≡ false
