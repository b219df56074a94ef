-- How many of some marks are set: none, after a change at one of them, and where some are.
-- Assumes nothing.
use Prim.Native.Nat.{ℕ, zero, suc, ◌+◌, ◌≤◌, ◌<◌}
use native.Mathlib.Omega.{arith}
use native.Mathlib.Decide.{dec_lt}
use mathlib.Core.Path.{◌≡◌, refl}
use mathlib.Core.Bool.{true}
use mathlib.Core.List.{List, [], ◌∷◌}
use lib.ListN.{length, get_or, set}
use borrow.Author.Tests.{lt-ltb}
use Rattle.verdict.specs.Rows.{high}
use Rattle.verdict.specs.Levels.{sum}

pub sum_none : (v : List ℕ) → ((p : ℕ) → get_or v p 0 ≡ 0) → sum v ≡ 0
sum_none [] h = refl
sum_none (x ∷ v) h = omega (arith, h 0, sum_none v (λ p. h (suc p)))

pub sum_set : (v : List ℕ) (k x : ℕ) → k < length v → sum (set v k x) + get_or v k 0 ≡ sum v + x
sum_set [] k x h = absurd (omega arith)
sum_set (y ∷ v) zero x h = omega arith
sum_set (y ∷ v) (suc k) x h = omega (arith, sum_set v k x (omega arith))

pub sum_bound : (v : List ℕ) → ((p : ℕ) → get_or v p 0 ≤ 1) → sum v ≤ length v
sum_bound [] h = omega arith
sum_bound (x ∷ v) h = omega (arith, h 0, sum_bound v (λ p. h (suc p)))

pub get-≤-sum : (v : List ℕ) (k : ℕ) → get_or v k 0 ≤ sum v
get-≤-sum [] k = omega arith
get-≤-sum (y ∷ v) zero = omega arith
get-≤-sum (y ∷ v) (suc k) = omega (arith, get-≤-sum v k)

pub sum_some : (v : List ℕ) → 0 < sum v → (p : ℕ) × (high v p ≡ true)
sum_some [] h = absurd (omega arith)
sum_some (y ∷ v) h = go (dec_lt 0 y) (sum_some v)
  where
    go : Dec (0 < y) → (0 < sum v → (p : ℕ) × (high v p ≡ true)) → (p : ℕ) × (high (y ∷ v) p ≡ true)
    go (yes l) f = (0, lt-ltb 0 y l)
    go (no l) f = let r = f (omega arith) in (suc r.0, r.1)
