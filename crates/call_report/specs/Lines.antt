-- What the code's loop over the lines is given and has done so far.
use Rattle.std.specs.Prelude.{ℕ, ◌*◌, ◌≤◌, ◌<◌, ◌≡◌, List, map, length, get_or, take}
use Rattle.verdict.specs.declared.WordOrder.{WordOrder}
use Rattle.verdict.specs.Levels.{sum}
use Rattle.verdict.specs.Words.{spelled}
use Rattle.call_report.specs.Report.{most_lines}

-- the lines of words by their names, where it is known how many gates are high in each word of the files
abbrev pub lines_by : WordOrder → ℕ → List ℕ → List ℕ → List ℕ
lines_by order n high names = map (λ name. get_or high (spelled order n name) 0) names

-- the first m members of a list are written, and what stands behind them is 0
pub record ListedTo (l : List ℕ) (m : ℕ) (written : List ℕ) : Type 0 where
  pub long : length written ≡ most_lines
  pub member : (k : ℕ) → k < m → get_or written k 0 ≡ get_or l k 0
  pub later : (k : ℕ) → m ≤ k → get_or written k 0 ≡ 0

-- the first m lines of some are written, and their sum is known
pub record LinesTo (l : List ℕ) (m : ℕ) (written : List ℕ) (sum-so-far : ℕ) : Type 0 where
  pub lines_to : ListedTo l m written
  pub sum_is : sum-so-far ≡ sum (take m l)
  pub small : sum-so-far ≤ 0x10000 * m
