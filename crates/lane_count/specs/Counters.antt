-- 64 counters side by side, one for each word of a block.
use Rattle.std.specs.Prelude.{ℕ, ◌+◌, ◌*◌, ◌≡◌, List, [], ◌∷◌}
use Rattle.lane_cells.specs.Lane.{level_in}
use Rattle.lane_count.specs.declared.Sum.{Sum}

-- the two digits of a sum of three levels, in each word
abbrev pub Sums : Sum → ℕ → ℕ → ℕ → Type 0
Sums r a b c = (j : ℕ) → level_in j r.low + 2 * level_in j r.high ≡ level_in j a + level_in j b + level_in j c

-- What the counter of word j says: each number of the list has one digit of every counter, to base 2, the lowest first.
abbrev pub counted : ℕ → List ℕ → ℕ
counted j [] = 0
counted j (x ∷ digits) = level_in j x + 2 * counted j digits

-- what the counters of the words j, 16 + j, 32 + j and 48 + j say, each in 16 bits of a number
abbrev pub counted_beside : ℕ → List ℕ → ℕ
counted_beside j digits = counted j digits + 0x10000 * (counted (16 + j) digits + 0x10000 * (counted (32 + j) digits + 0x10000 * counted (48 + j) digits))

-- as many digits as the most gates take
abbrev pub digit_count : ℕ
digit_count = 9
