-- How many gates of a stage are high at the rest of a word.
use Rattle.std.specs.Prelude.{ℕ, ◌^◌, ◌<◌, ◌≡◌, List, get_or}
use Rattle.netlist.specs.Content.{Stage}
use Rattle.verdict.specs.Levels.{sum}
use Rattle.verdict.specs.Rows.{settled_levels}
use Rattle.verdict.specs.Words.{rails_in}

abbrev pub gates_high : Stage → ℕ → ℕ
gates_high s w = sum (settled_levels s.gates (rails_in s w))

-- a list that has this for each word of the files that the inputs have
pub record HighIn (s : Stage) (high : List ℕ) : Type 0 where
  pub at : (w : ℕ) → w < 2 ^ s.inputs → get_or high w 0 ≡ gates_high s w
