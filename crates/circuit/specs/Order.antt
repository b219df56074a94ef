-- Topological orders of the gates: each gate comes after the gates that feed it.
use Rattle.std.specs.Prelude.{ℕ, ◌≤◌, ◌<◌, ◌≡◌, List, length, get_or}
use Rattle.netlist.specs.declared.Counts.{Counts}
use Rattle.netlist.specs.Content.{Gate}
use Rattle.verdict.specs.Loops.{Feeds}
use Rattle.circuit.specs.Stage.{tabulate, gate_at_place, place_of, stage_gates}

-- gate k stands at one of the first m places of an order
abbrev pub StandsIn : List ℕ → ℕ → ℕ → Type 0
StandsIn order m k = (i : ℕ) × (i < m) × (get_or order i 0 ≡ k)

-- Each gate stands once in the order, and the gates that feed it stand before it.
pub record TopologicalOrder (n : ℕ) (gates : List Gate) (order : List ℕ) : Type 0 where
  pub long : length gates ≤ length order
  pub gate : (i : ℕ) → i < length gates → get_or order i 0 < length gates
  pub stands : (k : ℕ) → k < length gates → StandsIn order (length gates) k
  pub once : (i j : ℕ) → i < length gates → j < length gates → get_or order i 0 ≡ get_or order j 0 → i ≡ j
  pub earlier : (i j : ℕ) → i < length gates → j < length gates → Feeds n gates j (get_or order i 0) → StandsIn order i j

-- the order that a flat form holds
unfoldable pub order_in : Counts → List ℕ → List ℕ
order_in c code = tabulate (gate_at_place code) c.gates

-- It is a topological order of the gates, and each gate's place in it is the one that stands at the gate.
pub record InOrder (c : Counts) (code : List ℕ) : Type 0 where
  pub ordered : TopologicalOrder c.inputs (stage_gates c code) (order_in c code)
  pub place_in : (k : ℕ) → k < c.gates → place_of code k < c.gates
  pub stands_there : (k : ℕ) → k < c.gates → gate_at_place code (place_of code k) ≡ k
