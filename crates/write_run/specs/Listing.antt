-- A run that is put into a list, one net after the other.
use Rattle.std.specs.Prelude.{ℕ, ◌+◌, ◌≡◌, List, ◌++◌, length}
use Rattle.runs.specs.Row.{Row, after}
use Rattle.write_command.specs.Put.{Put}
use Rattle.write_run.specs.declared.Lengths.{Lengths}

-- the nets of a run stand in a list from place `start` on, up to `end`, and the row is the one that they leave
pub record ListedRun (run before : List ℕ) (start : ℕ) (r₀ : Row) (end : ℕ) (list : List ℕ) (r : Row) : Type 0 where
  pub end_is : end ≡ start + length run
  pub put : Put before start run list
  pub row_is : r ≡ after r₀ run

-- a rise and a fall are put one after the other, from the start of a list, and their lengths are known
pub record RunPut (rise fall before : List ℕ) (r : Lengths) (list : List ℕ) : Type 0 where
  pub rise_is : r.rise ≡ length rise
  pub count-is : r.count ≡ length (rise ++ fall)
  pub put : Put before 0 (rise ++ fall) list
