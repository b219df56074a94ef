-- `search::least` meets its contract. The loop's invariant: the numbers before j do not pass. Assumes nothing.
use Prim.Native.Nat.{ℕ, ◌<◌}
use mathlib.Core.Path.{◌≡◌}
use mathlib.Core.Bool.{Bool}
use Rattle.verdict.proofs.Least.{SoughtTo}
use Rattle.search.proofs.least.Given as goal

abbrev pub invariant-loop-j : goal.invariant-loop-j
invariant-loop-j g l = (p : ℕ → Bool) → ((j : ℕ) (r : Bool) → j < l.end → goal.F-post g l.test j r → r ≡ p j) → SoughtTo p l.end l.j
