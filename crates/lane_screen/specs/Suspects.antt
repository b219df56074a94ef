-- Which words are suspect, as masks with a bit for each word of the files: word w is bit w mod 64 of number w / 64.
use Rattle.std.specs.Prelude.{ℕ, ◌+◌, ◌*◌, ◌/◌, ◌%◌, ◌<◌, ◌≡◌, false, List, length, get_or, None}
use Rattle.netlist.specs.Content.{Stage, Reference}
use Rattle.check_word.specs.declared.Sweep.{Sweep}
use Rattle.check_word.specs.declared.Sweep.TheVariants.{Wrong, Missing, Unobserved, Remaining, StillHigh}
use Rattle.check_word.specs.Finds.{finds}
use Rattle.lane_cells.specs.Lane.{lane}
use Rattle.lane_screen.specs.declared.Rise.{Rise}
use Rattle.lane_screen.specs.declared.Masks.{Masks}

-- some words of block b are named, and in one that is not a check finds nothing
abbrev pub CleanIn : Sweep → Stage → Reference → ℕ → ℕ → Type 0
CleanIn which s r b words = (j : ℕ) → j < 64 → lane j words ≡ false → finds which s r (64 * b + j) ≡ None

pub record RiseClean (s : Stage) (r : Reference) (b : ℕ) (l : Rise) : Type 0 where
  pub wrong : CleanIn Wrong s r b l.wrong
  pub missing : CleanIn Missing s r b l.all
  pub unobserved : CleanIn Unobserved s r b l.all

-- a mask has a bit for word w, and does not name it
pub record Unnamed (mask : List ℕ) (w : ℕ) : Type 0 where
  pub inside : w / 64 < length mask
  pub clear : lane (w % 64) (get_or mask (w / 64) 0) ≡ false

-- a check finds nothing in a word that its mask does not name
abbrev pub Clean : Sweep → Stage → Reference → List ℕ → Type 0
Clean which s r mask = (w : ℕ) → Unnamed mask w → finds which s r w ≡ None

-- so it is of each of the five: 14 and 15 share a mask, and so do 20 and 21
pub record AllClean (s : Stage) (r : Reference) (m : Masks) : Type 0 where
  pub wrong : Clean Wrong s r m.wrong
  pub missing : Clean Missing s r m.rise
  pub unobserved : Clean Unobserved s r m.rise
  pub remaining : Clean Remaining s r m.fall
  pub still_high : Clean StillHigh s r m.fall
