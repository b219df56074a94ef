-- What a cell gives in 64 words: where its set expression holds, and where it would not hold any more with one of its pins low.
use Rattle.std.specs.Prelude.{ℕ, ◌+◌, ◌*◌, ◌≡◌, Bool, true, false, cond, List, ◌∷◌, [], get_or, eqb, ltb}
use Rattle.std.specs.Int.Bits.{bit_and, bit_or, bit_xor}
use Rattle.gates.specs.Expression.{Expression, A, B, C, D, ◌·◌, ◌∔◌}
use Rattle.gates.specs.Cell.{pin_count, set_expression}
use Rattle.gates.specs.Table.{entry_of, GateTable}
use Rattle.lane_cells.specs.declared.CellLanes.{CellLanes}
use Rattle.lane_cells.specs.Lane.{level_in, lane}

-- an expression on the lanes of its pins: AND and OR of all words at once
abbrev pub lanes_of : Expression → ℕ → ℕ → ℕ → ℕ → ℕ
lanes_of A a b c d = a
lanes_of B a b c d = b
lanes_of C a b c d = c
lanes_of D a b c d = d
lanes_of (e · f) a b c d = bit_and (lanes_of e a b c d) (lanes_of f a b c d)
lanes_of (e ∔ f) a b c d = bit_or (lanes_of e a b c d) (lanes_of f a b c d)

-- what is left of an expression with a pin low: it never holds, or it holds as another does
pub data Lowered : Type 0 where
  never : Lowered
  still : Expression → Lowered

abbrev pub pin_low : Bool → Expression → Lowered
pin_low true e = never
pin_low false e = still e

abbrev pub both_low : Lowered → Lowered → Lowered
both_low never l = never
both_low (still e) never = never
both_low (still e) (still f) = still (e · f)

abbrev pub either_low : Lowered → Lowered → Lowered
either_low never l = l
either_low (still e) never = still e
either_low (still e) (still f) = still (e ∔ f)

-- an expression with pin i low
abbrev pub lowered : ℕ → Expression → Lowered
lowered i A = pin_low (eqb 0 i) A
lowered i B = pin_low (eqb 1 i) B
lowered i C = pin_low (eqb 2 i) C
lowered i D = pin_low (eqb 3 i) D
lowered i (e · f) = both_low (lowered i e) (lowered i f)
lowered i (e ∔ f) = either_low (lowered i e) (lowered i f)

abbrev pub lowered_lanes : Lowered → ℕ → ℕ → ℕ → ℕ → ℕ
lowered_lanes never a b c d = 0
lowered_lanes (still e) a b c d = lanes_of e a b c d

abbrev pub needing : ℕ → ℕ → ℕ → ℕ → ℕ → CellLanes
needing set a b c d = record { set = set; a = a; b = b; c = c; d = d }

-- the levels at four pins in word j
abbrev pub pins_in : ℕ → ℕ → ℕ → ℕ → ℕ → ℕ → Bool
pins_in j a b c d i = get_or (lane j a ∷ lane j b ∷ lane j c ∷ lane j d ∷ []) i false

-- the pattern that they make, as an entry of the table of cells is found by
abbrev pub pattern_in : ℕ → ℕ → ℕ → ℕ → ℕ → ℕ
pattern_in j a b c d = level_in j a + 2 * level_in j b + 4 * level_in j c + 8 * level_in j d

-- what a cell gives for pin i
abbrev pub need_of : CellLanes → ℕ → ℕ
need_of r i = get_or (r.a ∷ r.b ∷ r.c ∷ r.d ∷ []) i 0

-- where the expression holds and does not with pin i low; nowhere for a pin that the cell lacks
abbrev pub needs_pin : ℕ → ℕ → ℕ → ℕ → ℕ → ℕ → ℕ
needs_pin cell i a b c d =
    let e = set_expression cell in
    cond (ltb i (pin_count cell)) (bit_xor (lanes_of e a b c d) (lowered_lanes (lowered i e) a b c d)) 0

unfoldable pub cell_lanes : ℕ → ℕ → ℕ → ℕ → ℕ → CellLanes
cell_lanes cell a b c d =
    needing (lanes_of (set_expression cell) a b c d) (needs_pin cell 0 a b c d) (needs_pin cell 1 a b c d) (needs_pin cell 2 a b c d) (needs_pin cell 3 a b c d)

-- what a cell gives for the lanes of its pins; and in each word it is set where the table of cells has 1 for the pattern of its pins in that word
pub record CellGives (cell a b c d : ℕ) (r : CellLanes) : Type 0 where
  pub lanes : r ≡ cell_lanes cell a b c d
  pub entry : (table : List (List ℕ)) → GateTable table → (j : ℕ) → level_in j r.set ≡ entry_of table cell (pattern_in j a b c d)
