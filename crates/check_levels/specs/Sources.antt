-- What leads to each net through gates, as sets of registers in numbers of 64 bits: bit k is register k. The nets of inputs and gates have their sets in a
-- row; the rail of a register is that register by itself, where it has a row among the rails that are given.
use Rattle.std.specs.Prelude.{ℕ, ◌+◌, ◌*◌, ◌-◌, ◌%◌, ◌≤◌, ◌<◌, ◌≡◌, Bool, false, cond, ◌&&◌, List, [], ◌∷◌, length, get_or, eqb, ltb}
use Rattle.netlist.specs.declared.Counts.{Counts}
use Rattle.netlist.specs.Bytes.{absent}
use Rattle.netlist.specs.Reading.{stage_limits, Within}
use Rattle.verdict.specs.Lists.{some}
use Rattle.circuit.specs.Stage.{net_count, pin_in, stage_gates}
use Rattle.circuit.specs.Order.{TopologicalOrder, order_in}
use Rattle.lane_cells.specs.Lane.{lane}
use Rattle.wiring_spec.specs.Parts.{Pipeline}

-- A row of eight numbers stands for each net after the gates: number 0 is 1 for a rail of a register, and number 6 is then its number. Register t is in the
-- set of row i, ..
unfoldable pub is_rail : List ℕ → ℕ → ℕ → Bool
is_rail rails t i = eqb (get_or rails (8 * i) 0) 1 && eqb t (get_or rails (8 * i + 6) 0)

-- .. and of net x
unfoldable pub is_member : List ℕ → ℕ → List ℕ → ℕ → ℕ → Bool
is_member rails first sets t x = cond (ltb x first) (lane t (get_or sets x 0)) (is_rail rails t (x - first))

-- a number is the set of those that are in the set of some of a few nets
abbrev pub SetOf : List ℕ → ℕ → List ℕ → List ℕ → ℕ → Type 0
SetOf rails first sets xs set = (t : ℕ) → t < 64 → lane t set ≡ some (is_member rails first sets t) xs

-- the four numbers at the pins of gate k
abbrev pub pins_in : List ℕ → ℕ → List ℕ
pins_in raw k = pin_in raw k 0 ∷ pin_in raw k 1 ∷ pin_in raw k 2 ∷ pin_in raw k 3 ∷ []

pub record RailsIn (rails : List ℕ) : Type 0 where
  pub rows : length rails % 8 ≡ 0
  pub registers : (i : ℕ) → get_or rails (8 * i) 0 ≡ 1 → get_or rails (8 * i + 6) 0 < 64

-- the gates of a stage, with an order of them, and room for the sets
pub record Gatherable (rails order raw : List ℕ) (c : Counts) (sets : List ℕ) : Type 0 where
  pub rails_in_holds : RailsIn rails
  pub within : Within stage_limits c
  pub room : net_count c ≤ length sets
  pub raw-room : 8 * c.gates ≤ length raw
  pub order_room : 8 * c.gates ≤ length order
  pub ordered : TopologicalOrder c.inputs (stage_gates c raw) (order_in c order)

-- bit t is, before the gates have their sets, whether a net is such a one by itself; no gate is
pub record Seeds (p : Pipeline) (own : ℕ → Bool) (t : ℕ) (rails : List ℕ) (c : Counts) (sets : List ℕ) : Type 0 where
  pub inputs : (x : ℕ) → x < 2 * c.inputs → lane t (get_or sets x 0) ≡ own x
  pub gates : (k : ℕ) → k < c.gates → own (2 * c.inputs + k) ≡ false
  pub none : own absent ≡ false
  pub late : (x : ℕ) → net_count c ≤ x → is_rail rails t (x - net_count c) ≡ own x
