-- How a topological order is made in the code: gates wait until all that feed them are placed.
use Rattle.std.specs.Prelude.{ℕ, ◌+◌, ◌*◌, ◌<◌, ◌≡◌, Bool, true, false, ◌&&◌, not, List, get_or}
use Rattle.netlist.specs.declared.Counts.{Counts}
use Rattle.verdict.specs.Rows.{high}
use Rattle.verdict.specs.Loops.{In, pins_at, Feeds, LoopFree}
use Rattle.verdict.specs.Levels.{sum}
use Rattle.circuit.specs.Stage.{pin_in, gate_at_place, place_of, stage_gates, StageLoaded}
use Rattle.circuit.specs.Order.{InOrder}
use Rattle.circuit.specs.Form.{Reordered}
use Rattle.circuit_order.specs.Marks.{MarksFor, fed_by}

-- the first m gates wait, and no other net is marked
pub record WaitTo (c : Counts) (marks : List ℕ) (m : ℕ) : Type 0 where
  pub marks_for : MarksFor c marks
  pub total : sum marks ≡ m
  pub all : (k : ℕ) → k < m → high marks (2 * c.inputs + k) ≡ true
  pub only : (p : ℕ) → high marks p ≡ true → (k : ℕ) × (k < m) × (p ≡ 2 * c.inputs + k)

-- gate k waits; or it does not
abbrev pub Waits : Counts → List ℕ → ℕ → Type 0
Waits c waiting k = high waiting (2 * c.inputs + k) ≡ true

abbrev pub Gone : Counts → List ℕ → ℕ → Type 0
Gone c waiting k = high waiting (2 * c.inputs + k) ≡ false

-- The gates that wait are marked; the others stand at the first `placed` places of the order, each after those that feed it.
pub record Placing (c : Counts) (code waiting : List ℕ) (placed : ℕ) : Type 0 where
  pub loaded : StageLoaded c code
  pub marks_for : MarksFor c waiting
  pub total : sum waiting + placed ≡ c.gates
  pub only : (p : ℕ) → high waiting p ≡ true → (k : ℕ) × (k < c.gates) × (p ≡ 2 * c.inputs + k)
  pub taken : (i : ℕ) → i < placed →
      (gate_at_place code i < c.gates) × Gone c waiting (gate_at_place code i) × (place_of code (gate_at_place code i) ≡ i)
  pub stands : (k : ℕ) → k < c.gates → Gone c waiting k → (place_of code k < placed) × (gate_at_place code (place_of code k) ≡ k)
  pub earlier : (j k : ℕ) → j < c.gates → k < c.gates → Gone c waiting k → Feeds c.inputs (stage_gates c code) j k →
      Gone c waiting j × (place_of code j < place_of code k)

-- gate k waits, and no waiting gate feeds it
abbrev pub is_ready : Counts → List ℕ → List ℕ → ℕ → Bool
is_ready c code waiting k = high waiting (2 * c.inputs + k) && not (fed_by (stage_gates c code) waiting k)

-- a rank of the nets: the nets at the pins of a gate rank below its own
abbrev pub Ranks : Counts → List ℕ → (ℕ → ℕ) → Type 0
Ranks c code rank = (p k : ℕ) → In p (pins_at (stage_gates c code) k) → rank p < rank (2 * c.inputs + k)

-- Gate k was to be placed after those that feed it, `depth` gates deep at most. What had a place keeps it; and k has one, if the nets have ranks and
-- that of k is below the depth.
pub record PlacedAfter (c : Counts) (before code waited waiting : List ℕ) (placed k depth : ℕ) : Type 0 where
  pub placing : Placing c code waiting placed
  pub reordered : Reordered c before code
  pub kept : (j : ℕ) → Gone c waited j → Gone c waiting j
  pub enough : (rank : ℕ → ℕ) → Ranks c before rank → rank (2 * c.inputs + k) < depth → Gone c waiting k

-- the same on the way: the nets at the first i pins of gate k wait no more
pub record AfterPins (c : Counts) (before code waited waiting : List ℕ) (placed k i : ℕ) : Type 0 where
  pub placing : Placing c code waiting placed
  pub reordered : Reordered c before code
  pub kept : (j : ℕ) → Gone c waited j → Gone c waiting j
  pub done : (m : ℕ) → m < i → get_or waiting (pin_in code k m) 0 ≡ 0

-- All gates are placed, and the code holds a topological order; or some are not, and there is a loop.
pub record Ordered (c : Counts) (code : List ℕ) (placed : ℕ) : Type 0 where
  pub loaded : StageLoaded c code
  pub all : placed ≡ c.gates → InOrder c code × LoopFree c.inputs (stage_gates c code)
  pub some : ¬ (placed ≡ c.gates) → ¬ (LoopFree c.inputs (stage_gates c code))
