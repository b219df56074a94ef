-- One run from another: the same switchings, each once, and by exchanging neighbours.
-- Assumes nothing.
use Rattle.std.specs.Prelude.{◌≡◌, List, ◌∷◌, ◌++◌, ℕ, ◌≤◌}
use Rattle.runs.specs.Row.{Row, Rule, after, Legal, Ended, times}

-- A full run from row s: a legal list that comes to an end, which is row e.
pub record FullRun (can : Rule) (s e : Row) (l : List ℕ) : Type 0 where
  pub legal : Legal can s l
  pub ended : Ended can (after s l)
  pub arrives : after s l ≡ e

-- Two lists have "the same switchings, each once".
pub record SameSwitchings (l m : List ℕ) : Type 0 where
  pub same : (k : ℕ) → times k l ≡ times k m
  pub once : (k : ℕ) → times k l ≤ 1

-- "One can be turned into the other by exchanging neighbours in the list, with every list on the way a legal run."
pub data Exchanged (Run : List ℕ → Type 0) : List ℕ → List ℕ → Type 0 where
  done : {l : List ℕ} → Run l → Exchanged Run l l
  swap : {m : List ℕ} (a : List ℕ) (i k : ℕ) (b : List ℕ) → Run (a ++ i ∷ k ∷ b) → Exchanged Run (a ++ k ∷ i ∷ b) m
      → Exchanged Run (a ++ i ∷ k ∷ b) m

-- Any two full runs from row s: every run on the way is one too, with the same start and the same end.
pub record OneFromAnother (can : Rule) (s : Row) : Type 0 where
  pub same : (e f : Row) (l m : List ℕ) → FullRun can s e l → FullRun can s f m → SameSwitchings l m
  pub exchanged : (e f : Row) (l m : List ℕ) → FullRun can s e l → FullRun can s f m → Exchanged (FullRun can s e) l m
