-- Demand 3: what is promised of every list of switchings of an accepted stage in one word, whose rails are c, and to which the reference
-- answers `answer`.
-- Assumes nothing.
use Rattle.std.specs.Prelude.{◌≡◌, Bool, false, List, ◌++◌, ℕ, ◌<◌, length}
use Rattle.runs.specs.Row.{Row, Rule, low, after, Legal, Ended, tally, count, times}
use Rattle.runs.specs.Net.{Net, IsGate, nets, rise_step, fall_step, RiseList, RiseEnd, FallList, FallEnd}
use Rattle.runs.specs.Settled.{Settled}
use Rattle.runs.specs.Pair.{Both, AllData, AllNull, Reads, InputsData, AllLow}

-- A list from row s can be carried on to an end.
pub record GoesOn (can : Rule) (s : Row) (l : List ℕ) : Type 0 where
  pub more : List ℕ
  pub legal : Legal can s (l ++ more)
  pub ended : Ended can (after s (l ++ more))

-- A list has exactly as many switchings as rails and gates are high in R: each net that is high there stands in it exactly once, and no
-- other net stands in it.
pub record Switched (N : Net) (R : Row) (l : List ℕ) : Type 0 where
  pub as_many : length l ≡ count (nets N) R
  pub once : (k : ℕ) → times k l ≡ tally (R k) 0

-- After a list l of the fall from the rest R: it "can be carried on to an end"; "no output pair has both rails high"; "if all outputs are
-- NULL, every input and gate is low"; "each end comes after exactly as many switchings again, with every input and gate low".
pub record Falling (N : Net) (R : Row) (l : List ℕ) : Type 0 where
  pub goes_on : GoesOn (fall_step N) R l
  pub not_both : (j : ℕ) → j < N.outputs → ¬ (Both (after R l) (N.rail j))
  pub null_low : AllNull N (after R l) → AllLow N (after R l)
  pub end_switched : FallEnd N R l → Switched N R l
  pub end_low : FallEnd N R l → AllLow N (after R l)

module _ (N : Net) (c : Row) (answer : ℕ → Bool) where
  -- "If all outputs hold DATA, every input does, no gate can still switch, and the reference's answer is read."
  pub record Arrived (r : Row) : Type 0 where
    pub inputs : InputsData N r
    pub still : (g : ℕ) → IsGate N g → rise_step N c r g ≡ false
    pub read : Reads N r answer

  -- An end of the rise "comes after exactly as many switchings as rails and gates are then high", is "w's rails high, the other rails low,
  -- the gates settled for these" (the paper's "rest"), "with every output DATA"; and from it every list of the fall is as said above.
  pub record Rest (l : List ℕ) : Type 0 where
    pub switched : Switched N (after low l) l
    pub settled : Settled N c (after low l)
    pub all_data_holds : AllData N (after low l)
    pub falls : (m : List ℕ) → FallList N (after low l) m → Falling N (after low l) m

  -- After a list l of the rise: it "can be carried on to an end"; "no output pair has both rails high"; and as said above.
  pub record Rising (l : List ℕ) : Type 0 where
    pub goes_on : GoesOn (rise_step N c) low l
    pub not_both : (j : ℕ) → j < N.outputs → ¬ (Both (after low l) (N.rail j))
    pub data_whole : AllData N (after low l) → Arrived (after low l)
    pub end_rest : RiseEnd N c l → Rest l

  -- The promise: so it is after every list, and "all ends are alike in every net".
  pub record Promise : Type 0 where
    pub lists : (l : List ℕ) → RiseList N c l → Rising l
    pub one_end : (l m : List ℕ) → RiseList N c l → RiseList N c m → RiseEnd N c l → RiseEnd N c m → after low l ≡ after low m
