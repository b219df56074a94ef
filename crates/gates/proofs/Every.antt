-- A test that antt computes at every number below a bound, and the law that it then passes at each of them.
-- Assumes nothing.
use Prim.Native.Nat.{ℕ, zero, suc, ◌<◌}
use native.Mathlib.Omega.{arith}
use native.Mathlib.Decide.{ℕ_discrete}
use mathlib.Core.Path.{◌≡◌, sym, subst}
use mathlib.Core.Bool.{Bool, true, false, ◌&&◌}
use lib.Dec.{T}

abbrev pub every : (ℕ → Bool) → ℕ → Bool
every f zero = true
every f (suc n) = f n && every f n

&&-left : (a b : Bool) → T (a && b) → T a
&&-left true b t = tt
&&-left false b t = t

&&-right : (a b : Bool) → T (a && b) → T b
&&-right true b t = t
&&-right false b t = absurd t

pub every_at : (f : ℕ → Bool) (n : ℕ) → T (every f n) → (k : ℕ) → k < n → T (f k)
every_at f zero t k h = absurd (omega arith)
every_at f (suc n) t k h = go (ℕ_discrete k n) (every_at f n (&&-right (f n) (every f n) t) k)
  where
    go : Dec (k ≡ n) → (k < n → T (f k)) → T (f k)
    go (yes e) below = subst (λ (m : ℕ). T (f m)) (sym e) (&&-left (f n) (every f n) t)
    go (no d) below = below (omega arith)
