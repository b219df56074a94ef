-- What the refusals 20 and 21 of a word, whose rails are c, show: falls that break the promise at the place named; and what 32 shows, a full rise and a
-- full fall without the gate named. Each record says so of two lists of switchings, a rise and a fall.
-- Assumes nothing.
use Rattle.std.specs.Prelude.{◌≡◌, true, List, ℕ}
use Rattle.runs.specs.Row.{Row, low, after, times}
use Rattle.runs.specs.Net.{Net, input_rail, RiseList, RiseEnd, FallList, FallEnd}
use Rattle.runs.specs.Pair.{Data, AllNull}

-- A rise to an end, and a list of the fall from there.
pub record RiseAndFall (N : Net) (c : Row) (rise fall : List ℕ) : Type 0 where
  pub rise_legal : RiseList N c rise
  pub rise_ended : RiseEnd N c rise
  pub fall_legal : FallList N (after low rise) fall

-- 20: "some list of the named word's fall leaves all outputs NULL, but input `at` DATA".
pub record ShowsFallIncomplete (N : Net) (c : Row) (i : ℕ) (rise fall : List ℕ) : Type 0 where
  pub lists : RiseAndFall N c rise fall
  pub all_null_holds : AllNull N (after (after low rise) fall)
  pub input_data : Data (after (after low rise) fall) (input_rail i)

abbrev pub FallIncomplete : Net → Row → ℕ → Type 0
FallIncomplete N c i = (rise fall : List ℕ) × ShowsFallIncomplete N c i rise fall

-- 21: the same, "or gate `at` high".
pub record ShowsFallUnobservable (N : Net) (c : Row) (g : ℕ) (rise fall : List ℕ) : Type 0 where
  pub lists : RiseAndFall N c rise fall
  pub all_null_holds : AllNull N (after (after low rise) fall)
  pub gate_high : after (after low rise) fall g ≡ true

abbrev pub FallUnobservable : Net → Row → ℕ → Type 0
FallUnobservable N c g = (rise fall : List ℕ) × ShowsFallUnobservable N c g rise fall

-- A full rise and a full fall.
pub record FullCycle (N : Net) (c : Row) (rise fall : List ℕ) : Type 0 where
  pub lists : RiseAndFall N c rise fall
  pub fall_ended : FallEnd N (after low rise) fall

-- 32: a full rise and a full fall in which gate `at` never switches.
pub record ShowsNeverSwitching (N : Net) (c : Row) (g : ℕ) (rise fall : List ℕ) : Type 0 where
  pub cycle : FullCycle N c rise fall
  pub not_in_rise : times g rise ≡ 0
  pub not_in_fall : times g fall ≡ 0
