-- 64 words side by side: bit j of a number is what it says of word j of a block.
use Rattle.std.specs.Prelude.{ℕ, ◌/◌, ◌%◌, ◌^◌, Bool, List, map, get_or, eqb}
use Rattle.runs.specs.Row.{Row}

-- bit j of a number, which is 0 or 1; and whether it is 1
unfoldable pub level_in : ℕ → ℕ → ℕ
level_in j x = x / 2 ^ j % 2

abbrev pub lane : ℕ → ℕ → Bool
lane j x = eqb (level_in j x) 1

-- the row of nets in word j
abbrev pub row_in : ℕ → List ℕ → Row
row_in j lanes net = lane j (get_or lanes net 0)

-- the same as a list of levels
abbrev pub lane_of : ℕ → List ℕ → List ℕ
lane_of j lanes = map (level_in j) lanes
