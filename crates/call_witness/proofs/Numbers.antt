-- The numbers that speak of runs, and of falls. Assumes nothing.
use Prim.Native.Nat.{ℕ, zero, suc, ◌+◌, ◌-◌, ◌≤◌}
use native.Mathlib.Omega.{arith}
use mathlib.Core.Path.{◌≡◌, refl, ap, ◌∙◌}
use mathlib.Core.Bool.{true, false}
use lib.Dec.{eqb}
use borrow.Author.Tests.{ne_eqb}
use Rattle.check_spec.specs.Lists.{some}
use Rattle.run_spec.specs.Witness.{of_runs, of_falls}

pub speaks_0 : (n : ℕ) → n ≡ 0 → (some (eqb n) of_runs ≡ true) × (some (eqb n) of_falls ≡ true)
unfolding some
speaks_0 n e = rw e (refl, refl)

pub speaks_13 : (n : ℕ) → 13 ≤ n → n ≤ 15 → some (eqb n) of_runs ≡ true
unfolding some
speaks_13 n lo hi = let e : n ≡ 13 + (n - 13) = omega arith in ap (λ (k : ℕ). some (eqb k) of_runs) e ∙ go (n - 13) (omega arith)
  where
    go : (k : ℕ) → k ≤ 2 → some (eqb (13 + k)) of_runs ≡ true
    go zero h = refl
    go (suc zero) h = refl
    go (suc (suc zero)) h = refl
    go (suc (suc (suc k))) h = absurd (omega arith)

pub speaks_20 : (n : ℕ) → 20 ≤ n → n ≤ 21 → (some (eqb n) of_runs ≡ true) × (some (eqb n) of_falls ≡ true)
unfolding some
speaks_20 n lo hi = let e : n ≡ 20 + (n - 20) = omega arith in rw e (go (n - 20) (omega arith))
  where
    go : (k : ℕ) → k ≤ 1 → (some (eqb (20 + k)) of_runs ≡ true) × (some (eqb (20 + k)) of_falls ≡ true)
    go zero h = (refl, refl)
    go (suc zero) h = (refl, refl)
    go (suc (suc k)) h = absurd (omega arith)

pub speaks_32 : (n : ℕ) → n ≡ 32 → (some (eqb n) of_runs ≡ true) × (some (eqb n) of_falls ≡ true)
unfolding some
speaks_32 n e = rw e (refl, refl)

pub silent_falls : (n : ℕ) → ¬ (n ≡ 0) → (20 ≤ n → n ≤ 21 → ⊥) → ¬ (n ≡ 32) → some (eqb n) of_falls ≡ false
unfolding some
silent_falls n a c d = rw (ne_eqb n 0 a, ne_eqb n 20 (λ e. c (omega arith) (omega arith)), ne_eqb n 21 (λ e. c (omega arith) (omega arith)), ne_eqb n 32 d)

pub silent_runs : (n : ℕ) → ¬ (n ≡ 0) → (13 ≤ n → n ≤ 15 → ⊥) → (20 ≤ n → n ≤ 21 → ⊥) → ¬ (n ≡ 32) → some (eqb n) of_runs ≡ false
unfolding some
silent_runs n a b c d =
    rw (
      ne_eqb n 0 a,
      ne_eqb n 13 (λ e. b (omega arith) (omega arith)),
      ne_eqb n 14 (λ e. b (omega arith) (omega arith)),
      ne_eqb n 15 (λ e. b (omega arith) (omega arith)),
      ne_eqb n 20 (λ e. c (omega arith) (omega arith)),
      ne_eqb n 21 (λ e. c (omega arith) (omega arith)),
      ne_eqb n 32 d,
    )
