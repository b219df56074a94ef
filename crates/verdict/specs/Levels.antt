-- Lists of levels: which are 0 and 1, which lie below which, how many are high, and which are settled for given rails.
use Rattle.std.specs.Prelude.{ℕ, zero, suc, ◌≤◌, ◌≡◌, List, [], ◌∷◌, ◌++◌, map, get_or, set}
use Rattle.netlist.specs.Content.{Gate}
use Rattle.verdict.specs.Rows.{is_set}
pub use Rattle.verdict.specs.Lists.{sum}

-- n values, each 0 or 1
abbrev pub Bits : ℕ → List ℕ → Type 0
Bits zero [] = Unit {0}
Bits zero (x ∷ xs) = ⊥
Bits (suc n) [] = ⊥
Bits (suc n) (x ∷ xs) = (x ≤ 1) × Bits n xs

-- as long as the other, and nowhere above it
abbrev pub Below : List ℕ → List ℕ → Type 0
Below [] [] = Unit {0}
Below [] (y ∷ ys) = ⊥
Below (x ∷ xs) [] = ⊥
Below (x ∷ xs) (y ∷ ys) = (x ≤ y) × Below xs ys

-- the level that gate k is to have in a row, with gate h held low: 1 where its set expression holds, else 0
abbrev pub level_holding : ℕ → List Gate → List ℕ → ℕ → ℕ
level_holding h gates row k = get_or (set (map (is_set row) gates) h 0) k 0

-- each gate's level is 1 exactly if its set expression holds in the row, which is the rails and then the levels
abbrev pub LevelsSettled : List Gate → List ℕ → List ℕ → Type 0
LevelsSettled gates rails levels = map (is_set (rails ++ levels)) gates ≡ levels

-- the same, except that gate h is low
abbrev pub LevelsHeld : ℕ → List Gate → List ℕ → List ℕ → Type 0
LevelsHeld h gates rails levels = set (map (is_set (rails ++ levels)) gates) h 0 ≡ levels
