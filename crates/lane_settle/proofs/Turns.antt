-- One turn of the loop that settles a block, and its end.
-- Assumes nothing.
use Prim.Native.Nat.{ℕ, ◌+◌, ◌*◌, ◌≤◌, ◌<◌}
use native.Mathlib.Omega.{arith}
use mathlib.Core.Path.{◌≡◌, refl, sym, ap, ◌∙◌}
use mathlib.Core.Bool.{false}
use mathlib.Core.List.{List}
use lib.ListN.{length, set, length-set}
use Rattle.runs.specs.Acknowledged.{Acknowledged}
use Rattle.netlist.specs.declared.Counts.{Counts}
use Rattle.circuit.specs.Stage.{net_count, StageLoaded}
use Rattle.circuit.specs.Order.{InOrder}
use Rattle.circuit.specs.Form.{GateAt}
use Rattle.lane_cells.specs.declared.CellLanes.{CellLanes}
use Rattle.lane_cells.specs.Lane.{lane}
use Rattle.lane_cells.specs.Cells.{need_of}
use Rattle.lane_settle.specs.Block.{rest_in, net_in, Room, Spelled, LanesSettledTo, Marked, gate_lanes, PinsMarked}
use Rattle.lane_settle.proofs.Marks.{marked_pins}
use Rattle.lane_settle.proofs.Settling.{rest_past, pins_settled, settled_more, set_level, need_acknowledges}

-- the gates at the first i places have their levels, and their marks are there
pub record BlockTo (c : Counts) (code row₀ ack₀ row ack : List ℕ) (i : ℕ) : Type 0 where
  pub row_long : length row ≡ length row₀
  pub ack_long : length ack ≡ length ack₀
  pub settled : (b : ℕ) → Spelled c (rest_in c code b) row₀ → LanesSettledTo c code (rest_in c code b) row i
  pub marked : (b : ℕ) → Spelled c (rest_in c code b) row₀ → Marked c code b ack₀ → Marked c code b ack

module _ (c : Counts) (code row₀ ack₀ : List ℕ) where
  pub block_start : BlockTo c code row₀ ack₀ row₀ ack₀ 0
  block_start = record {
    row_long = refl;
    ack_long = refl;
    settled = λ b s. record { spelled = s; gates = λ j q d l. absurd (omega arith) };
    marked = λ b s m. m;
  }

  module _ (loaded : StageLoaded c code) (ordered : InOrder c code) (room : Room c row₀) (row ack : List ℕ) (i : ℕ) (s : BlockTo c code row₀ ack₀ row ack i) where
    pub block_turn : i < c.gates → (k : ℕ) → GateAt c code i k → (cell : CellLanes) → cell ≡ gate_lanes code k row → (ack' : List ℕ) → length ack' ≡ length ack
        → PinsMarked code k cell ack ack' → BlockTo c code row₀ ack₀ (set row (2 * c.inputs + k) cell.set) ack' (i + 1)
    block_turn h k at cell is ack' long more = record {
      row_long = length-set row (2 * c.inputs + k) cell.set ∙ s.row_long;
      ack_long = long ∙ s.ack_long;
      settled = λ b x. set-turn b (s.settled b x);
      marked = λ b x m. mark_turn b (s.settled b x) (s.marked b x m);
    }
      where
        past : (b j p : ℕ) → net_count c ≤ p → rest_in c code b j p ≡ false
        past b j = rest_past c code ordered (64 * b + j)

        set-turn : (b : ℕ) → LanesSettledTo c code (rest_in c code b) row i → LanesSettledTo c code (rest_in c code b) (set row (2 * c.inputs + k) cell.set) (i + 1)
        set-turn b x =
            settled_more c code loaded ordered (rest_in c code b) (past b) row i h x k at (omega (arith, s.row_long)) cell.set
            (λ j d. ap (λ (r : CellLanes). lane j r.set) is
            ∙ set_level c code loaded k at.there ordered row j (64 * b + j) (λ t l. pins_settled c code loaded ordered (rest_in c code b) (past b) row i h x k at j t d l))

        mark_turn : (b : ℕ) → LanesSettledTo c code (rest_in c code b) row i → Marked c code b ack → Marked c code b ack'
        mark_turn b x =
            marked_pins (λ j p. Acknowledged (net_in c code) (rest_in c code b j) p) c code k cell ack ack' more
            (λ j t d l q e. need_acknowledges c code loaded k at.there ordered row j (64 * b + j) (λ t l. pins_settled c code loaded ordered (rest_in c code b) (past b) row i h x k at j t d l) t l
            (sym (ap (λ (r : CellLanes). lane j (need_of r t)) is) ∙ e))
