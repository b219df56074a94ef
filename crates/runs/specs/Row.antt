-- Rows of nets, switchings, and lists of switchings.
-- Assumes nothing.
use Rattle.std.specs.Prelude.{◌≡◌, Bool, true, false, not, cond, ◌&&◌, List, [], ◌∷◌, ℕ, zero, suc, eqb}

-- A row says of each net, by its number, whether it is high. A set of nets is a row too: its nets are high.
abbrev pub Row : Type 0
Row = ℕ → Bool

-- Every net is low.
abbrev pub low : Row
low k = false

-- The set of the one net g.
abbrev pub only : ℕ → Row
only g k = eqb k g

-- What is high in the first row and not in the second.
abbrev pub ◌∖◌ : Row → Row → Row
◌∖◌ r X k = r k && not (X k)

-- A switching of net k: "every other net stays as it was, and nothing else changes a net".
abbrev pub toggle : Row → ℕ → Row
toggle r k i = cond (eqb i k) (not (r i)) (r i)

-- The row that a list of switchings leaves.
abbrev pub after : Row → List ℕ → Row
after r [] = r
after r (k ∷ l) = after (toggle r k) l

-- A rule says of each row which nets may switch on it.
abbrev pub Rule : Type 0
Rule = Row → ℕ → Bool

-- The rule under which a low net switches as the first rule says, and a high net as the second says.
abbrev pub switch : Rule → Rule → Rule
switch up down r k = cond (r k) (down r k) (up r k)

-- "Any list of steps, each taken on the row that the one before it left. A step that the rules bar stands in none."
abbrev pub Legal : Rule → Row → List ℕ → Type 0
Legal can r [] = Unit {0}
Legal can r (k ∷ l) = (can r k ≡ true) × Legal can (toggle r k) l

-- "The run ends when no step is left."
abbrev pub Ended : Rule → Row → Type 0
Ended can r = (k : ℕ) → can r k ≡ false

-- One more if the test holds.
abbrev pub tally : Bool → ℕ → ℕ
tally true n = suc n
tally false n = n

-- How many of the nets below n are high.
abbrev pub count : ℕ → Row → ℕ
count zero r = 0
count (suc n) r = tally (r n) (count n r)

-- How often net k stands in a list.
abbrev pub times : ℕ → List ℕ → ℕ
times k [] = 0
times k (i ∷ l) = tally (eqb k i) (times k l)

infix 60 ◌∖◌
