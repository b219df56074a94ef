-- Settled rows: for given rails, with some nets held low, and by the fall rule with some nets kept.
-- Assumes nothing.
use Rattle.std.specs.Prelude.{◌≡◌, not, ◌&&◌, ◌||◌, ℕ}
use Rattle.runs.specs.Row.{Row, ◌∖◌}
use Rattle.runs.specs.Net.{Net, rise_up, fall_down}

-- "Settled for given rails: each gate is high exactly if its set expression holds." A rail is high exactly if it is in c, and a net
-- that does not exist is low. For the rails of a word this row is "the rest".
abbrev pub Settled : Net → Row → Row → Type 0
Settled N c r = (k : ℕ) → r k ≡ rise_up N c r k

-- "Settled with g held low: the same, except that gate g is low"; here of a set X of nets.
abbrev pub SettledHeld : Net → Row → Row → Row → Type 0
SettledHeld N c X r = (k : ℕ) → r k ≡ (rise_up N c r ∖ X) k

-- Settled by the fall rule from row R with the nets of X kept: high is what was high in R and is in X or may not fall.
abbrev pub SettledKept : Net → Row → Row → Row → Type 0
SettledKept N X R r = (k : ℕ) → r k ≡ (R k && (X k || not (fall_down N r k)))
