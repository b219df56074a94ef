-- Marks on the nets of a loaded stage, and the search for the least gate that reaches itself, which visits what a gate comes from.
use Rattle.std.specs.Prelude.{ℕ, ◌+◌, ◌*◌, ◌≤◌, ◌<◌, ◌≡◌, Bool, true, false, List, length, get_or, Option, None}
use Rattle.netlist.specs.declared.Counts.{Counts}
use Rattle.netlist.specs.Content.{Gate}
use Rattle.verdict.specs.Rows.{high}
use Rattle.verdict.specs.Graph.{Leads, any_high}
use Rattle.verdict.specs.Loops.{In, pins_at, gate_steps, reaches_itself}
use Rattle.verdict.specs.Search.{least}
use Rattle.verdict.specs.Levels.{sum}
use Rattle.circuit.specs.Stage.{net_count, pin_in, stage_gates, stage_in, StageLoaded}
use Rattle.circuit.specs.Order.{InOrder}
use Rattle.circuit.specs.Rows.{row_size}

-- marks on the nets of a stage, and none on the ground
pub record MarksFor (c : Counts) (marks : List ℕ) : Type 0 where
  pub long : length marks ≡ row_size
  pub room : net_count c < row_size
  pub bit : (p : ℕ) → get_or marks p 0 ≤ 1
  pub ground : get_or marks (net_count c) 0 ≡ 0

-- no net is marked
pub record Unmarked (c : Counts) (marks : List ℕ) : Type 0 where
  pub marks_for : MarksFor c marks
  pub none : (p : ℕ) → get_or marks p 0 ≡ 0

-- a marked net is at a pin of gate k
abbrev pub fed_by : List Gate → List ℕ → ℕ → Bool
fed_by gates marks k = any_high marks (pins_at gates k)

-- marks on some of the gates: those that a search has not visited yet
pub record Left (c : Counts) (left : List ℕ) : Type 0 where
  pub marks_for : MarksFor c left
  pub only : (p : ℕ) → high left p ≡ true → (k : ℕ) × (k < c.gates) × (p ≡ 2 * c.inputs + k)

-- A search has visited what the nets of `from` come from, as far as it was left before: what is visited is left no more; of a gate that was visited
-- the pins were, and one that was visited is what one of the nets comes from.
pub record Visited (c : Counts) (code before left : List ℕ) (from : ℕ → Type 0) : Type 0 where
  pub stays : Left c left
  pub fewer : (p : ℕ) → high left p ≡ true → high before p ≡ true
  pub less : sum left ≤ sum before
  pub pins : (p : ℕ) → from p → high left p ≡ false
  pub closed : (x : ℕ) → high before (2 * c.inputs + x) ≡ true → high left (2 * c.inputs + x) ≡ false
      → (p : ℕ) → In p (pins_at (stage_gates c code) x) → high left p ≡ false
  pub reached : (p : ℕ) → high before p ≡ true → high left p ≡ false → (z : ℕ) × from z × Leads (gate_steps c.inputs (stage_gates c code)) p z

-- the nets at the pins of gate k; and at the first i of its four
abbrev pub Pins : Counts → List ℕ → ℕ → ℕ → Type 0
Pins c code k p = In p (pins_at (stage_gates c code) k)

abbrev pub FirstPins : Counts → List ℕ → ℕ → ℕ → ℕ → Type 0
FirstPins c code k i p = (m : ℕ) × (m < i) × (p ≡ pin_in code k m) × (p < net_count c)

-- the gates from g on are left, and no gate before g reaches itself
pub record From (c : Counts) (code left : List ℕ) (g : ℕ) : Type 0 where
  pub stays : Left c left
  pub later : (k : ℕ) → high left (2 * c.inputs + k) ≡ true → g ≤ k
  pub all : (k : ℕ) → g ≤ k → k < c.gates → high left (2 * c.inputs + k) ≡ true
  pub none : (k : ℕ) → k < g → reaches_itself c.inputs (stage_gates c code) k ≡ false

-- 12: the least gate that reaches itself. The stage is the same; where no gate was found its gates are in order.
pub record LoopFound (c : Counts) (before code : List ℕ) (found : Option ℕ) : Type 0 where
  pub loaded : StageLoaded c code
  pub same : stage_in c code ≡ stage_in c before
  pub least_loop : found ≡ least (reaches_itself c.inputs (stage_gates c before)) 0 (length (stage_gates c before))
  pub in_order : found ≡ None → InOrder c code
