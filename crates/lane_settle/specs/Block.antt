-- The words of a stage in blocks of 64: what holds of a row and of marks, lane by lane, while a block settles.
use Rattle.std.specs.Prelude.{ℕ, ◌+◌, ◌*◌, ◌<◌, ◌≡◌, Bool, true, false, ◌⊎◌, List, length, get_or}
use Rattle.runs.specs.Row.{Row}
use Rattle.runs.specs.Net.{Net}
use Rattle.runs.specs.Acknowledged.{Acknowledged, FallAcknowledged}
use Rattle.netlist.specs.declared.Counts.{Counts}
use Rattle.verdict.specs.Nets.{net_of, rest_row}
use Rattle.circuit.specs.Stage.{net_count, cell_in, pin_in, gate_at_place, stage_in}
use Rattle.lane_cells.specs.declared.CellLanes.{CellLanes}
use Rattle.lane_cells.specs.Lane.{lane, row_in}
use Rattle.lane_cells.specs.Cells.{need_of, cell_lanes}
use Rattle.lane_settle.specs.declared.PinLanes.{PinLanes}

-- the rest of word 64 b + j, which is word j of block b
abbrev pub rest_in : Counts → List ℕ → ℕ → ℕ → Row
rest_in c code b j = rest_row (stage_in c code) (64 * b + j)

abbrev pub net_in : Counts → List ℕ → Net
net_in c code = net_of (stage_in c code)

-- a row, or marks, with room for each net and for the ground
abbrev pub Room : Counts → List ℕ → Type 0
Room c row = net_count c < length row

-- ---- 64 rows in one: of each net its levels, word by word

-- the ground is low, and the rails are as in the rows
pub record Spelled (c : Counts) (rows : ℕ → Row) (row : List ℕ) : Type 0 where
  pub ground : get_or row (net_count c) 0 ≡ 0
  pub rails : (j p : ℕ) → j < 64 → p < 2 * c.inputs → row_in j row p ≡ rows j p

-- and so are the gates at the first i places of the order
pub record LanesSettledTo (c : Counts) (code : List ℕ) (rows : ℕ → Row) (row : List ℕ) (i : ℕ) : Type 0 where
  pub spelled : Spelled c rows row
  pub gates : (j q : ℕ) → j < 64 → q < i → row_in j row (2 * c.inputs + gate_at_place code q) ≡ rows j (2 * c.inputs + gate_at_place code q)

-- all nets are
abbrev pub NetsOf : Counts → (ℕ → Row) → List ℕ → Type 0
NetsOf c rows row = (j p : ℕ) → j < 64 → p < net_count c → row_in j row p ≡ rows j p

-- and the ground is low
pub record Holding (c : Counts) (rows : ℕ → Row) (row : List ℕ) : Type 0 where
  pub ground : get_or row (net_count c) 0 ≡ 0
  pub nets : NetsOf c rows row

-- the rows of block b at rest
abbrev pub AtRest : Counts → List ℕ → ℕ → List ℕ → Type 0
AtRest c code b = NetsOf c (rest_in c code b)

abbrev pub Resting : Counts → List ℕ → ℕ → List ℕ → Type 0
Resting c code b = Holding c (rest_in c code b)

-- ---- marks

-- what is said of each net that is marked in a word of a block
abbrev pub MarkedWith : (ℕ → ℕ → Type 0) → Counts → List ℕ → Type 0
MarkedWith Holds c ack = (j p : ℕ) → j < 64 → p < net_count c → row_in j ack p ≡ true → Holds j p

-- acknowledged in the rise, or on the way back to NULL
abbrev pub AcknowledgedIn : Bool → Net → Row → ℕ → Type 0
AcknowledgedIn false = Acknowledged
AcknowledgedIn true = FallAcknowledged

-- a net that is marked in a word of block b is acknowledged there
abbrev pub MarkedIn : Bool → Counts → List ℕ → ℕ → List ℕ → Type 0
MarkedIn falls c code b = MarkedWith (λ j p. AcknowledgedIn falls (net_in c code) (rest_in c code b j) p) c

abbrev pub Marked : Counts → List ℕ → ℕ → List ℕ → Type 0
Marked = MarkedIn false

-- ---- one gate

-- the levels at the pins of gate k in a row
abbrev pub pin_lanes : List ℕ → ℕ → List ℕ → PinLanes
pin_lanes code k row =
    record { a = get_or row (pin_in code k 0) 0; b = get_or row (pin_in code k 1) 0; c = get_or row (pin_in code k 2) 0; d = get_or row (pin_in code k 3) 0 }

-- what its cell gives for them
abbrev pub gate_lanes : List ℕ → ℕ → List ℕ → CellLanes
gate_lanes code k row = let at = pin_lanes code k row in cell_lanes (cell_in code k) at.a at.b at.c at.d

-- marks more, each at a net of one of gate k's pins, in words that are named for that pin
abbrev pub PinsMarked : List ℕ → ℕ → CellLanes → List ℕ → List ℕ → Type 0
PinsMarked code k words ack ack' =
    (j p : ℕ) → row_in j ack' p ≡ true → (row_in j ack p ≡ true) ⊎ ((t : ℕ) × (t < 4) × (p ≡ pin_in code k t) × (lane j (need_of words t) ≡ true))
