-- A number that is none of the first ones: what is known in the last arm of a `match`.
-- Assumes nothing.
use Prim.Native.Nat.{ℕ, zero, suc, ◌≤◌, ◌<◌}
use native.Mathlib.Omega.{arith}
use mathlib.Core.Path.{◌≡◌}

-- n is none of 1 to m
abbrev pub Excluded : ℕ → ℕ → Type 0
Excluded n zero = Unit {0}
Excluded n (suc m) = Excluded n m × (n ≡ suc m → ⊥)

pub above : (n m : ℕ) → 1 ≤ n → Excluded n m → m < n
above n zero low x = low
above n (suc m) low x = go (above n m low x.0) x.1
  where
    go : m < n → (n ≡ suc m → ⊥) → suc m < n
    go h d = omega arith
