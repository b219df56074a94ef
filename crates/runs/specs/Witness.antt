-- What the refusals 13, 14 and 15 of a word, whose rails are c, show: runs that break the promise at the place named. Each record says of a list of
-- switchings that it shows so.
-- Assumes nothing.
use Rattle.std.specs.Prelude.{◌≡◌, Bool, true, false, List, ℕ}
use Rattle.runs.specs.Row.{Row, low, after}
use Rattle.runs.specs.Net.{Net, input_rail, rise_step, RiseList, RiseEnd}
use Rattle.runs.specs.Pair.{DataOf, Null, AllData}
use Rattle.runs.specs.Promise.{GoesOn}

-- 13: a run that has come to its end, "with output `at` not the reference's DATA".
pub record ShowsWrong (N : Net) (c : Row) (answer : ℕ → Bool) (j : ℕ) (list : List ℕ) : Type 0 where
  pub legal : RiseList N c list
  pub ended : RiseEnd N c list
  pub wrong : ¬ (DataOf (after low list) (N.rail j) (answer j))

-- "Every run of the named word ends with output `at` not the reference's DATA": every list, the empty one too, goes on to an end, and every
-- end is so.
pub record Wrong (N : Net) (c : Row) (answer : ℕ → Bool) (j : ℕ) : Type 0 where
  pub goes_on : (l : List ℕ) → RiseList N c l → GoesOn (rise_step N c) low l
  pub wrong : (l : List ℕ) → RiseList N c l → RiseEnd N c l → ShowsWrong N c answer j l

-- 14: "some list of its steps leaves all outputs DATA and input `at` NULL".
pub record ShowsIncomplete (N : Net) (c : Row) (i : ℕ) (list : List ℕ) : Type 0 where
  pub legal : RiseList N c list
  pub all_data_holds : AllData N (after low list)
  pub null : Null (after low list) (input_rail i)

abbrev pub Incomplete : Net → Row → ℕ → Type 0
Incomplete N c i = (list : List ℕ) × ShowsIncomplete N c i list

-- 15: "some list leaves all outputs DATA and gate `at` low with its set expression true".
pub record ShowsUnobservable (N : Net) (c : Row) (g : ℕ) (list : List ℕ) : Type 0 where
  pub legal : RiseList N c list
  pub all_data_holds : AllData N (after low list)
  pub gate_low : after low list g ≡ false
  pub set : N.fires (after low list) g ≡ true

abbrev pub Unobservable : Net → Row → ℕ → Type 0
Unobservable N c g = (list : List ℕ) × ShowsUnobservable N c g list
