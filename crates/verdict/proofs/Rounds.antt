-- Rounds of a step that grows with its levels: after as many rounds as levels the step leaves them as they are.
-- Assumes nothing.
use Prim.Native.Nat.{ℕ, zero, suc, ◌<◌}
use native.Mathlib.Omega.{arith}
use mathlib.Core.Path.{◌≡◌, sym, ap}
use mathlib.Core.Logic.{◌⊎◌, inl, inr, ⊎_elim}
use mathlib.Core.List.{List}
use lib.ListN.{replicate}
use Rattle.verdict.specs.Rows.{rounds}
use Rattle.verdict.specs.Levels.{Bits, Below, sum}
use Rattle.verdict.proofs.Levels.{below_refl, below_split, low_bits, low_below, bits_sum}

module _
    (step : List ℕ → List ℕ)
    (n : ℕ)
    (bits : (v : List ℕ) → Bits n v → Bits n (step v))
    (rises : (u v : List ℕ) → Below u v → Below (step u) (step v))
  where
    pub rounds_bits : (k : ℕ) → Bits n (rounds step n k)
    unfolding rounds
    rounds_bits zero = low_bits n
    rounds_bits (suc k) = bits (rounds step n k) (rounds_bits k)

    rounds-rise : (k : ℕ) → Below (rounds step n k) (rounds step n (suc k))
    unfolding rounds
    rounds-rise zero = low_below n (rounds step n 1) (rounds_bits 1)
    rounds-rise (suc k) = rises (rounds step n k) (rounds step n (suc k)) (rounds-rise k)

    -- k rounds are enough, or after one more round more than k levels are high
    progress : (k : ℕ) → (rounds step n k ≡ rounds step n (suc k)) ⊎ (k < sum (rounds step n (suc k)))
    unfolding rounds
    progress zero = ⊎_elim inl (λ h. inr (omega arith)) (below_split (rounds step n 0) (rounds step n 1) (rounds-rise 0))
    progress (suc k) =
        ⊎_elim (λ e. inl (ap step e))
        (λ h. ⊎_elim inl (λ l. inr (omega arith)) (below_split (rounds step n (suc k)) (rounds step n (suc (suc k))) (rounds-rise (suc k))))
        (progress k)

    -- after n rounds the step changes nothing
    pub rounds_fixed : step (rounds step n n) ≡ rounds step n n
    unfolding rounds
    rounds_fixed = ⊎_elim (λ e. sym e) (λ h. absurd (omega (arith, bits_sum n (rounds step n (suc n)) (rounds_bits (suc n))))) (progress n)

-- rounds of a step that is nowhere above another are nowhere above that one's
pub rounds_mono : (step step' : List ℕ → List ℕ) → ((u v : List ℕ) → Below u v → Below (step u) (step' v)) → (n k : ℕ) → Below (rounds step n k) (rounds step' n k)
unfolding rounds
rounds_mono step step' h n zero = below_refl (replicate n 0)
rounds_mono step step' h n (suc k) = h (rounds step n k) (rounds step' n k) (rounds_mono step step' h n k)
