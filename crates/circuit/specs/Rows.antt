-- Rows of a stage in its flat form: the rails, the gates' levels, and the ground, which is low.
use Rattle.std.specs.Prelude.{ℕ, ◌+◌, ◌*◌, ◌≤◌, ◌<◌, ◌≡◌, List, ◌++◌, length, get_or, take, drop}
use Rattle.runs.specs.Row.{only}
use Rattle.netlist.specs.declared.Counts.{Counts}
use Rattle.netlist.specs.Reading.{stage_limits}
use Rattle.verdict.specs.Rows as rows
use Rattle.verdict.specs.Levels.{level_holding}
use Rattle.verdict.specs.Falls.{fallen_levels}
use Rattle.circuit.specs.Stage.{net_count, pin_in, stage_gates}
use Rattle.circuit.specs.Order.{order_in}

-- room for a row of the largest stage
abbrev pub row_size : ℕ
row_size = 2 * stage_limits.inputs + stage_limits.gates + 1

-- levels that are 0 and 1 for the nets, and 0 for the ground; what stands after it is not read
pub record RowFor (c : Counts) (row : List ℕ) : Type 0 where
  pub long : net_count c < length row
  pub bit : (p : ℕ) → p ≤ net_count c → get_or row p 0 ≤ 1
  pub ground : get_or row (net_count c) 0 ≡ 0

-- the levels of the nets: the rails, then the gates' levels
abbrev pub nets_in : Counts → List ℕ → List ℕ
nets_in c row = take (net_count c) row

abbrev pub rail_part : Counts → List ℕ → List ℕ
rail_part c row = take (2 * c.inputs) row

abbrev pub level_part : Counts → List ℕ → List ℕ
level_part c row = take c.gates (drop (2 * c.inputs) row)

-- the level of a net, which is 0 or 1
pub record LevelOf (row : List ℕ) (net level : ℕ) : Type 0 where
  pub is : level ≡ get_or row net 0
  pub small : level ≤ 1

-- the pattern of the pins of gate k: pin A is the lowest bit
abbrev pub pattern_in : List ℕ → List ℕ → ℕ → ℕ
pattern_in row code k =
    get_or row (pin_in code k 0) 0 + 2 * get_or row (pin_in code k 1) 0 + 4 * get_or row (pin_in code k 2) 0 + 8 * get_or row (pin_in code k 3) 0

-- ---- settling in the order

-- the gates at the first m places of an order have the levels that a rule says of each gate in a row
abbrev pub SettledBefore : ℕ → (List ℕ → ℕ → ℕ) → List ℕ → List ℕ → List ℕ → Type 0
SettledBefore m rule order rails levels = (i : ℕ) → i < m → get_or levels (get_or order i 0) 0 ≡ rule (rails ++ levels) (get_or order i 0)

-- the same of a row in its flat form, with gate h held low
abbrev pub SettledTo : ℕ → ℕ → Counts → List ℕ → List ℕ → Type 0
SettledTo m h c code row = SettledBefore m (level_holding h (stage_gates c code)) (order_in c code) (rail_part c row) (level_part c row)

-- the row of a stage that is settled, with the rails of a row
abbrev pub settled_in : Counts → List ℕ → List ℕ → List ℕ
settled_in c code row = rows.settled (stage_gates c code) (rail_part c row)

abbrev pub settled_holding_in : ℕ → Counts → List ℕ → List ℕ → List ℕ
settled_holding_in h c code row = rows.settled_holding h (stage_gates c code) (rail_part c row)

-- the row that is settled by the fall rule with the rails of a row, whose levels are the rest's, and gate h kept high
abbrev pub fallen_in : ℕ → Counts → List ℕ → List ℕ → List ℕ
fallen_in h c code row = rail_part c row ++ fallen_levels (only h) (stage_gates c code) (level_part c row) (rail_part c row)
