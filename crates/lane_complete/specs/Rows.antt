-- 64 rows side by side that settle with an input NULL, or fall with an input kept; what a gate does in them, and what the outputs show.
use Rattle.std.specs.Prelude.{ℕ, zero, suc, ◌+◌, ◌*◌, ◌≤◌, ◌<◌, ◌≡◌, false, not, List, get_or}
use Rattle.std.specs.Int.Bits.{bit_and}
use Rattle.runs.specs.Row.{Row, only}
use Rattle.runs.specs.Net.{Net, rails_of_inputs, may_rise, may_fall}
use Rattle.runs.specs.Settled.{Settled, SettledKept}
use Rattle.netlist.specs.declared.Counts.{Counts}
use Rattle.verdict.specs.Nets.{row_of, missing_row}
use Rattle.verdict.specs.Falls.{fallen_but}
use Rattle.circuit.specs.Stage.{net_count, pin_in, stage_in}
use Rattle.circuit.specs.Form.{rails_in}
use Rattle.lane_cells.specs.Lane.{lane, row_in}
use Rattle.lane_settle.specs.Block.{rest_in, net_in}

-- ---- rows

-- each is settled for its own rails
abbrev pub SettledRows : Counts → List ℕ → (ℕ → Row) → Type 0
SettledRows c code rows = (j : ℕ) → Settled (net_in c code) (rows j) (rows j)

-- each is settled by the fall rule from the rest of its word in block b, with all inputs fallen but i
abbrev pub FallenRows : Counts → List ℕ → ℕ → ℕ → (ℕ → Row) → Type 0
FallenRows c code b i rows = (j : ℕ) → SettledKept (net_in c code) (rails_of_inputs (net_in c code) (only i)) (rest_in c code b j) (rows j)

-- those that 14 and 20 look at in the words of block b
abbrev pub missing_in : Counts → List ℕ → ℕ → ℕ → ℕ → Row
missing_in c code b i j = missing_row (stage_in c code) (64 * b + j) i

abbrev pub remaining_in : Counts → List ℕ → ℕ → ℕ → ℕ → Row
remaining_in c code b i j = row_of (fallen_but (stage_in c code) (64 * b + j) i)

-- ---- all of them in one row of lanes

-- the ground is low, and so are all rails in each word
pub record RailsLow (c : Counts) (row : List ℕ) : Type 0 where
  pub ground : get_or row (net_count c) 0 ≡ 0
  pub rails : (j p : ℕ) → j < 64 → p < 2 * c.inputs → row_in j row p ≡ false

-- in word j the pins of gate k are as in row R, in which nothing is high past the nets
pub record PinsAs (c : Counts) (code : List ℕ) (k : ℕ) (row : List ℕ) (j : ℕ) (R : Row) : Type 0 where
  pub past : (p : ℕ) → net_count c ≤ p → R p ≡ false
  pub pins : (t : ℕ) → t < 4 → row_in j row (pin_in code k t) ≡ R (pin_in code k t)

-- the words in which gate k may rise, or may not fall, by the levels at its pins
abbrev pub MayRise : Counts → List ℕ → ℕ → List ℕ → ℕ → Type 0
MayRise c code k row words = (j : ℕ) (R : Row) → PinsAs c code k row j R → lane j words ≡ may_rise (net_in c code) R (2 * c.inputs + k)

abbrev pub MayNotFall : Counts → List ℕ → ℕ → List ℕ → ℕ → Type 0
MayNotFall c code k row words = (j : ℕ) (R : Row) → PinsAs c code k row j R → lane j words ≡ not (may_fall (net_in c code) R (2 * c.inputs + k))

-- only in words that are named all outputs are so, DATA or NULL
abbrev pub OnlyIn : (Net → Row → Type 0) → Counts → List ℕ → (ℕ → Row) → ℕ → Type 0
OnlyIn AllSo c code rows words = (j : ℕ) → j < 64 → lane j words ≡ false → ¬ (AllSo (net_in c code) (rows j))

-- the words in which the first n outputs pass a test, which gives the words in which one does by those of its two rails
unfoldable pub passing : (ℕ → ℕ → ℕ) → Counts → List ℕ → List ℕ → ℕ → ℕ
passing test c code row zero = 0xFFFF_FFFF_FFFF_FFFF
passing test c code row (suc n) =
    bit_and (passing test c code row n) (test (get_or row (rails_in c code n).rail0 0) (get_or row (rails_in c code n).rail1 0))
