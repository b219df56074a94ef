-- What is promised of the table of 432 entries: a row for each of the 27 cells, an entry for each of 16 patterns of pins.
use Rattle.std.specs.Prelude.{ℕ, ◌+◌, ◌-◌, ◌^◌, ◌≤◌, ◌<◌, ◌≡◌, cond, List, [], get_or}
use Rattle.gates.specs.Cell.{pin_of, set_bit}

abbrev pub entry_of : List (List ℕ) → ℕ → ℕ → ℕ
entry_of table c pattern = get_or (get_or table (c - 1) []) pattern 0

-- the pattern with pin i high
abbrev pub raised : ℕ → ℕ → ℕ
raised pattern i = cond (pin_of pattern i) pattern (pattern + 2 ^ i)

pub record GateTable (table : List (List ℕ)) : Type 0 where
  -- every row equals its expression
  pub row : (c pattern : ℕ) → 1 ≤ c → c ≤ 27 → pattern < 16 → entry_of table c pattern ≡ set_bit c pattern
  -- raising a pin never lowers an entry
  pub rising : (c pattern i : ℕ) → 1 ≤ c → c ≤ 27 → pattern < 16 → i < 4 → entry_of table c pattern ≤ entry_of table c (raised pattern i)
