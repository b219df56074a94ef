-- Lists of levels: which are 0 and 1, which lie below which, and how many are high.
-- Assumes nothing.
use Prim.Native.Nat.{ℕ, zero, suc, ◌+◌, ◌≤◌, ◌<◌}
use native.Mathlib.Omega.{arith}
use native.Mathlib.Decide.{ℕ_discrete}
use mathlib.Core.Path.{◌≡◌, refl, ap, ap₂}
use mathlib.Core.Bool.{Bool, true, false}
use mathlib.Core.Logic.{◌⊎◌, inl, inr}
use mathlib.Core.List.{List, [], ◌∷◌, ◌++◌}
use lib.ListN.{length, get_or, set, replicate}
use borrow.Author.Tests.{lt-ltb, ltb-true}
use Rattle.gates.specs.Cell.{bit}
use Rattle.verdict.specs.Rows.{high}
use Rattle.verdict.specs.Levels.{Bits, Below, sum}

-- ---- below

pub below_refl : (u : List ℕ) → Below u u
below_refl [] = tt
below_refl (x ∷ u) = (omega arith, below_refl u)

pub below_get : (u v : List ℕ) → Below u v → (k : ℕ) → get_or u k 0 ≤ get_or v k 0
below_get [] (y ∷ v) p k = elim p [ ]
below_get (x ∷ u) [] p k = elim p [ ]
below_get [] [] p k = omega arith
below_get (x ∷ u) (y ∷ v) p zero = p.0
below_get (x ∷ u) (y ∷ v) p (suc k) = below_get u v p.1 k

pub below-++ : (w x u v : List ℕ) → Below w x → Below u v → Below (w ++ u) (x ++ v)
below-++ [] (b ∷ x) u v p q = elim p [ ]
below-++ (a ∷ w) [] u v p q = elim p [ ]
below-++ [] [] u v p q = q
below-++ (a ∷ w) (b ∷ x) u v p q = (p.0, below-++ w x u v p.1 q)

pub below_set : (u v : List ℕ) → Below u v → (k x : ℕ) → Below (set u k x) (set v k x)
below_set [] (b ∷ v) p k x = elim p [ ]
below_set (a ∷ u) [] p k x = elim p [ ]
below_set [] [] p k x = tt
below_set (a ∷ u) (b ∷ v) p zero x = (omega arith, p.1)
below_set (a ∷ u) (b ∷ v) p (suc k) x = (p.0, below_set u v p.1 k x)

-- levels below others are those, or fewer of them are high
pub below_split : (u v : List ℕ) → Below u v → (u ≡ v) ⊎ (sum u < sum v)
below_split [] (y ∷ v) p = elim p [ ]
below_split (x ∷ u) [] p = elim p [ ]
below_split [] [] p = inl refl
below_split (x ∷ u) (y ∷ v) p = go (ℕ_discrete x y) (below_split u v p.1)
  where
    go : Dec (x ≡ y) → (u ≡ v) ⊎ (sum u < sum v) → (x ∷ u ≡ y ∷ v) ⊎ (x + sum u < y + sum v)
    go (yes e) (inl f) = inl (ap₂ {C = List ℕ} (λ a b. a ∷ b) e f)
    go (yes e) (inr h) = inr (omega arith)
    go (no d) (inl f) = inr (omega (arith, p.0, d, ap sum f))
    go (no d) (inr h) = inr (omega (arith, p.0, d))

-- what is high below is high
pub high_mono : (u v : List ℕ) → ((k : ℕ) → get_or u k 0 ≤ get_or v k 0) → (p : ℕ) → high u p ≡ true → high v p ≡ true
high_mono u v h p e = lt-ltb 0 (get_or v p 0) (omega (arith, h p, ltb-true 0 (get_or u p 0) e))

-- ---- bits

pub bit-≤-1 : (a : Bool) → bit a ≤ 1
bit-≤-1 true = omega arith
bit-≤-1 false = omega arith

pub bit_mono : (a b : Bool) → (a ≡ true → b ≡ true) → bit a ≤ bit b
bit_mono true b h = rw (h refl) (omega arith)
bit_mono false b h = omega arith

pub low_bits : (n : ℕ) → Bits n (replicate n 0)
low_bits zero = tt
low_bits (suc n) = (omega arith, low_bits n)

pub low_below : (n : ℕ) (v : List ℕ) → Bits n v → Below (replicate n 0) v
low_below zero (x ∷ v) b = elim b [ ]
low_below (suc n) [] b = elim b [ ]
low_below zero [] b = tt
low_below (suc n) (x ∷ v) b = (omega arith, low_below n v b.1)

pub bits_length : (n : ℕ) (v : List ℕ) → Bits n v → length v ≡ n
bits_length zero (x ∷ v) b = elim b [ ]
bits_length (suc n) [] b = elim b [ ]
bits_length zero [] b = refl
bits_length (suc n) (x ∷ v) b = ap suc (bits_length n v b.1)

pub bits_sum : (n : ℕ) (v : List ℕ) → Bits n v → sum v ≤ n
bits_sum zero (x ∷ v) b = elim b [ ]
bits_sum (suc n) [] b = elim b [ ]
bits_sum zero [] b = omega arith
bits_sum (suc n) (x ∷ v) b = omega (arith, b.0, bits_sum n v b.1)

pub bits_get : (n : ℕ) (v : List ℕ) → Bits n v → (k : ℕ) → get_or v k 0 ≤ 1
bits_get zero (x ∷ v) p k = elim p [ ]
bits_get (suc n) [] p k = elim p [ ]
bits_get zero [] p k = omega arith
bits_get (suc n) (x ∷ v) p zero = p.0
bits_get (suc n) (x ∷ v) p (suc k) = bits_get n v p.1 k

pub bits_set : (n : ℕ) (v : List ℕ) → Bits n v → (k x : ℕ) → x ≤ 1 → Bits n (set v k x)
bits_set zero (a ∷ v) p k x h = elim p [ ]
bits_set (suc n) [] p k x h = elim p [ ]
bits_set zero [] p k x h = tt
bits_set (suc n) (a ∷ v) p zero x h = (h, p.1)
bits_set (suc n) (a ∷ v) p (suc k) x h = (p.0, bits_set n v p.1 k x h)
