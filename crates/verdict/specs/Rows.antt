-- The nets of a stage as a row of levels, 1 for high and 0 for low: settled rows, and what an output pair holds.
use Rattle.std.specs.Prelude.{ℕ, zero, suc, Bool, true, false, cond, List, [], ◌∷◌, ◌++◌, map, length, get_or, set, replicate, eqb, ltb}
use Rattle.gates.specs.Expression.{holds}
use Rattle.gates.specs.Cell.{set_expression, bit}
use Rattle.netlist.specs.Content.{Gate, Pair}

-- a net is high in a row: its level is not 0; what is past the row's end is low
abbrev pub high : List ℕ → ℕ → Bool
high row net = ltb 0 (get_or row net 0)

-- some rails with the inputs of a set NULL, which is both of their rails low
unfoldable pub with_null : (ℕ → Bool) → List ℕ → List ℕ
with_null missing [] = []
with_null missing (rail0 ∷ []) = rail0 ∷ []
with_null missing (rail0 ∷ rail1 ∷ rails) =
    let others = with_null (λ i. missing (suc i)) rails in
    cond (missing 0) (0 ∷ 0 ∷ others) (rail0 ∷ rail1 ∷ others)

-- ---- settled rows

-- pin i of a gate is high; a pin that its kind lacks counts as low
abbrev pub pin_high : List ℕ → Gate → ℕ → Bool
pin_high row g i = get_or (map (high row) g.pins) i false

-- 1 where the gate's set expression holds in the row, else 0
unfoldable pub is_set : List ℕ → Gate → ℕ
is_set row g = bit (holds (set_expression g.cell) (pin_high row g))

-- n levels that start low, after k rounds of a step
unfoldable pub rounds : (List ℕ → List ℕ) → ℕ → ℕ → List ℕ
rounds step n zero = replicate n 0
rounds step n (suc k) = step (rounds step n k)

-- "Settled for given rails: each gate is high exactly if its set expression holds", computed: as many rounds as there are gates, each of
-- which sets every gate by the levels before it. That a stage without loops has this settled row and no other is a theorem.
unfoldable pub settled_levels : List Gate → List ℕ → List ℕ
settled_levels gates rails = rounds (λ levels. map (is_set (rails ++ levels)) gates) (length gates) (length gates)

-- "Settled with g held low: the same, except that gate g is low"
unfoldable pub levels_holding : ℕ → List Gate → List ℕ → List ℕ
levels_holding h gates rails = rounds (λ levels. set (map (is_set (rails ++ levels)) gates) h 0) (length gates) (length gates)

-- the settled row: the rails, then the settled levels; and with gate h held low
abbrev pub settled : List Gate → List ℕ → List ℕ
settled gates rails = rails ++ settled_levels gates rails

abbrev pub settled_holding : ℕ → List Gate → List ℕ → List ℕ
settled_holding h gates rails = rails ++ levels_holding h gates rails

-- ---- pairs

-- what a pair of rails holds: NULL (both low), DATA0 (only rail 0 high), DATA1 (only rail 1 high), or neither (both high)
pub data DualRail : Type 0 where
  null data0 data1 both : DualRail

abbrev pub dual_rail : Bool → Bool → DualRail
dual_rail false false = null
dual_rail true false = data0
dual_rail false true = data1
dual_rail true true = both

abbrev pub pair_in : List ℕ → Pair → DualRail
pair_in row p = dual_rail (high row p.rail0) (high row p.rail1)

abbrev pub is_data : DualRail → Bool
is_data null = false
is_data data0 = true
is_data data1 = true
is_data both = false

-- DATA1 is read as 1 and DATA0 as 0
abbrev pub spells : DualRail → ℕ → Bool
spells null value = false
spells data0 value = eqb value 0
spells data1 value = eqb value 1
spells both value = false

abbrev pub is_null : DualRail → Bool
is_null null = true
is_null data0 = false
is_null data1 = false
is_null both = false

-- every pair passes a test in a row
unfoldable pub every_pair : (DualRail → Bool) → List ℕ → List Pair → Bool
every_pair test row [] = true
every_pair test row (p ∷ pairs) = let later = every_pair test row pairs in cond (test (pair_in row p)) later false

abbrev pub all_data : List ℕ → List Pair → Bool
all_data = every_pair is_data

abbrev pub all_null : List ℕ → List Pair → Bool
all_null = every_pair is_null
