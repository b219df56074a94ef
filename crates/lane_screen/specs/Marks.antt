-- What the marks of a block say: which nets a gate acknowledges, asked by pin or by net, and the words in which a high net is not marked.
use Rattle.std.specs.Prelude.{ℕ, ◌+◌, ◌<◌, ◌≡◌, Bool, true, false, cond, not, List, length, get_or, eqb}
use Rattle.gates.specs.Expression.{holds}
use Rattle.gates.specs.Cell.{set_expression}
use Rattle.runs.specs.Row.{Row, only}
use Rattle.runs.specs.Net.{Net}
use Rattle.netlist.specs.declared.Counts.{Counts}
use Rattle.netlist.specs.Reading.{reference_limits}
use Rattle.circuit.specs.Stage.{net_count, cell_in, pin_in}
use Rattle.circuit.specs.Rows.{row_size}
use Rattle.lane_cells.specs.declared.CellLanes.{CellLanes}
use Rattle.lane_cells.specs.Lane.{lane, row_in}
use Rattle.lane_cells.specs.Cells.{needing, need_of, cell_lanes}
use Rattle.lane_settle.specs.Block.{rest_in, net_in, Resting, AcknowledgedIn}

-- What the blocks share: a row whose ground is low, marks, and the values of the reference's signals.
pub record Workspace (c : Counts) (row ack values : List ℕ) : Type 0 where
  pub row_long : length row ≡ row_size
  pub ack_long : length ack ≡ row_size
  pub values_long : length values ≡ reference_limits.inputs + reference_limits.gates
  pub ground : get_or row (net_count c) 0 ≡ 0

-- ---- one gate

-- in a block that is at rest, where words are named for a pin of gate k its net is acknowledged
abbrev pub PinsAcknowledged : Bool → Counts → List ℕ → ℕ → List ℕ → CellLanes → Type 0
PinsAcknowledged falls c code k row words =
    (b : ℕ) → Resting c code b row → (j t : ℕ) → j < 64 → t < 4 → pin_in code k t < net_count c → lane j (need_of words t) ≡ true
    → AcknowledgedIn falls (net_in c code) (rest_in c code b j) (pin_in code k t)

-- where words are named for a pin of gate k it is high, and it alone sets the gate's cell
abbrev pub Lone : List ℕ → ℕ → List ℕ → CellLanes → Type 0
Lone code k row words =
    (j t : ℕ) → t < 4 → lane j (need_of words t) ≡ true → (row_in j row (pin_in code k t) ≡ true) × (holds (set_expression (cell_in code k)) (only t) ≡ true)

-- whether a pin is kept: the pins at a net alone, or all others
abbrev pub keeps : Bool → ℕ → ℕ → Bool
keeps true net pin = eqb pin net
keeps false net pin = not (eqb pin net)

abbrev pub cofactor_pin : List ℕ → Bool → ℕ → ℕ → ℕ
cofactor_pin row alone net pin = cond (keeps alone net pin) (get_or row pin 0) 0

-- where gate k is set by the pins that are kept
abbrev pub cofactor_of : List ℕ → ℕ → List ℕ → Bool → ℕ → ℕ
cofactor_of code k row alone net =
    (cell_lanes (cell_in code k) (cofactor_pin row alone net (pin_in code k 0)) (cofactor_pin row alone net (pin_in code k 1))
    (cofactor_pin row alone net (pin_in code k 2))
    (cofactor_pin row alone net (pin_in code k 3))).set

-- the same for the net at each pin
abbrev pub cofactors_of : List ℕ → ℕ → List ℕ → Bool → CellLanes
cofactors_of code k row alone =
    needing 0 (cofactor_of code k row alone (pin_in code k 0)) (cofactor_of code k row alone (pin_in code k 1)) (cofactor_of code k row alone (pin_in code k 2))
    (cofactor_of code k row alone (pin_in code k 3))

-- ---- all nets

-- a net that is acknowledged in every row, in the rise and on the way back, as a rail of an output is
abbrev pub AlwaysAcknowledged : Net → ℕ → Type 0
AlwaysAcknowledged N p = (falls : Bool) (R : Row) → AcknowledgedIn falls N R p

-- in word j every high net is marked
abbrev pub AllMarked : ℕ → Counts → List ℕ → List ℕ → Type 0
AllMarked j c row ack = (p : ℕ) → p < net_count c → row_in j row p ≡ true → row_in j ack p ≡ true

-- in the words of block b that are not named, every net that is high at the rest is acknowledged
abbrev pub AcknowledgedBut : Bool → Counts → List ℕ → ℕ → ℕ → Type 0
AcknowledgedBut falls c code b words =
    (j : ℕ) → j < 64 → lane j words ≡ false → (p : ℕ) → rest_in c code b j p ≡ true → AcknowledgedIn falls (net_in c code) (rest_in c code b j) p
