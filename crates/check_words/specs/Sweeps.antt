-- The checks that sweep the words of a stage: 13, 14 and 15 in the rise, 20 and 21 in the fall.
use Rattle.std.specs.Prelude.{ℕ, ◌≤◌, ◌<◌, ◌≡◌, ◌⊎◌, List, [], ◌∷◌, get_or}
use Rattle.netlist.specs.Content.{Stage, Reference}
use Rattle.verdict.specs.FourNumbers.{Finding}
use Rattle.verdict.specs.declared.WordOrder.{WordOrder}
use Rattle.verdict.specs.Words.{spelled, names}
use Rattle.verdict.specs.Checks.{sweep}
use Rattle.check_word.specs.declared.Sweep.{Sweep}
use Rattle.check_word.specs.declared.Sweep.TheVariants.{Wrong, Missing, Unobserved, Remaining, StillHigh}
use Rattle.check_word.specs.Finds.{finds}
use Rattle.lane_screen.specs.declared.Masks.{Masks}
use Rattle.lane_screen.specs.Suspects.{Unnamed}
use Rattle.lane_screen.specs.Hold.{WithHold}

-- the number of a check
abbrev pub number_of : Sweep → ℕ
number_of Wrong = 13
number_of Missing = 14
number_of Unobserved = 15
number_of Remaining = 20
number_of StillHigh = 21

-- what it finds in the words of a stage, by their names
abbrev pub swept : Sweep → WordOrder → Stage → Reference → Finding
swept which order s r = sweep (number_of which) 1 (λ name. finds which s r (spelled order s.inputs name)) (names order s)

-- the checks in their order, and the one at a place of it
abbrev pub all_sweeps : List Sweep
all_sweeps = Wrong ∷ Missing ∷ Unobserved ∷ Remaining ∷ StillHigh ∷ []

abbrev pub sweep_at : ℕ → Sweep
sweep_at i = get_or all_sweeps i StillHigh

-- the mask of each
abbrev pub mask_of : Sweep → Masks → List ℕ
mask_of Wrong m = m.wrong
mask_of Missing m = m.rise
mask_of Unobserved m = m.rise
mask_of Remaining m = m.fall
mask_of StillHigh m = m.fall

-- a mask names none of the words of a list from one place on and before another
abbrev pub UnnamedFrom : List ℕ → List ℕ → ℕ → ℕ → Type 0
UnnamedFrom mask list from i = (j : ℕ) → from ≤ j → j < i → Unnamed mask (get_or list j 0)

-- so many of the checks decide: all, or where every gate has hold those of the rise
pub record Enough (s : Stage) (m : ℕ) : Type 0 where
  pub few : m ≤ 5
  pub decides : (m ≡ 5) ⊎ (m ≡ 3) × WithHold s
