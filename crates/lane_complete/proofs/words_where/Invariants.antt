-- `lane_complete::words_where` meets its contract. The loop's invariant: the words in which the first j outputs pass are gathered. Assumes nothing.
use Prim.Native.Nat.{ℕ}
use mathlib.Core.Path.{◌≡◌}
use Rattle.lane_complete.specs.Rows.{passing}
use Rattle.lane_complete.proofs.words_where.Given as goal

abbrev pub invariant-loop-j : goal.invariant-loop-j
invariant-loop-j g l =
    (f : ℕ → ℕ → ℕ) → ((a b r : ℕ) → g.F.Fn.post l.test (a, (b, tt)) r → r ≡ f a b) → l.words ≡ passing f l.counts l.code l.row l.j
