-- What listing some numbers leaves in a slice, and marks on numbers.
use Rattle.std.specs.Prelude.{ℕ, ◌<◌, ◌≡◌, List, ◌++◌, length, get_or, drop, ltb}
use Rattle.verdict.specs.Words.{is_in}

-- all of them, so many, stand at its start, and what is behind them stays as it was
pub record Listed (numbers before : List ℕ) (count : ℕ) (after : List ℕ) : Type 0 where
  pub count-is : count ≡ length numbers
  pub list_is : after ≡ numbers ++ drop count before

-- a byte for each of the first numbers: none is marked; or those are that stand in a list
abbrev pub NoneMarked : List ℕ → Type 0
NoneMarked marks = (w : ℕ) → get_or marks w 0 ≡ 0

abbrev pub Marked : List ℕ → List ℕ → Type 0
Marked ws marks = (w : ℕ) → w < length marks → ltb 0 (get_or marks w 0) ≡ is_in w ws
