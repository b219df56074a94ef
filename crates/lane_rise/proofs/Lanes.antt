-- Lanes of numbers: one that is not 0 has a lane that is high, and a word put into a mask is the only one that comes to it. Words that agree below
-- 2 to the number of inputs have the same bits.
-- Assumes nothing.
use Prim.Native.Nat.{ℕ, zero, suc, ◌+◌, ◌*◌, ◌/◌, ◌%◌, ◌^◌, ◌<◌}
use native.Mathlib.Omega.{arith}
use native.Mathlib.Decide.{ℕ_discrete}
use native.Mathlib.Nat.{div-one, div-div-eq-div-mul, pow-succ'}
use mathlib.Core.Path.{◌≡◌, refl, sym, ap, ap₂, ◌∙◌}
use mathlib.Core.Bool.{Bool, true, false}
use mathlib.Core.List.{List, ◌∷◌}
use lib.ListN.{get_or, replicate}
use lib.Dec.{eqb, eqb→eq}
use lib.Pow.{field, mod-mod-pow}
use Rattle.gates.specs.Cell.{bit}
use Rattle.gates.proofs.Every.{every, every_at}
use Rattle.verdict.specs.Words.{bits_of}
use Rattle.lane_cells.specs.Lane.{level_in, lane}

-- ---- a lane that is high

level-first : (x : ℕ) → level_in 0 x ≡ x % 2
unfolding level_in
level-first x = ap (λ (n : ℕ). n % 2) (div-one x)

level-later : (j x : ℕ) → level_in (suc j) x ≡ level_in j (x / 2)
unfolding level_in
level-later j x = ap (λ (n : ℕ). n % 2) (sym (div-div-eq-div-mul x 2 (2 ^ j) ∙ ap (λ (n : ℕ). x / n) (sym (pow-succ' 2 j))))

pub some_lane : (n x : ℕ) → x < 2 ^ n → (x ≡ 0 → ⊥) → (j : ℕ) × (j < n) × (lane j x ≡ true)
some_lane zero x h d = absurd (d (omega arith))
some_lane (suc n) x h d = go (ℕ_discrete (x % 2) 1) (some_lane n (x / 2) (omega (arith, pow-succ' 2 n)))
  where
    go : Dec (x % 2 ≡ 1) → ((x / 2 ≡ 0 → ⊥) → (j : ℕ) × (j < n) × (lane j (x / 2) ≡ true)) → (j : ℕ) × (j < suc n) × (lane j x ≡ true)
    go (yes e) later = (0, omega arith, ap (λ (v : ℕ). eqb v 1) (level-first x ∙ e))
    go (no q) later =
        let r = later (λ z. d (omega arith)) in
        (suc r.0, omega (arith, r.1), ap (λ (v : ℕ). eqb v 1) (level-later r.0 x) ∙ r.2)

pub zeros_at : (n b : ℕ) → get_or {A = ℕ} (replicate n 0) b 0 ≡ 0
zeros_at zero b = refl
zeros_at (suc n) zero = refl
zeros_at (suc n) (suc b) = zeros_at n b

-- ---- one word in a mask

-- 1 shifted to lane j, as 64 bits hold it
abbrev pub one_at : ℕ → ℕ
one_at j = 1 * 2 ^ j % 18446744073709551616

one_level : (j i : ℕ) → j < 64 → i < 64 → level_in i (one_at j) ≡ bit (eqb i j)
unfolding level_in
one_level j i h k =
    eqb→eq (level_in i (one_at j)) (bit (eqb i j))
    (every_at (λ i. eqb (level_in i (one_at j)) (bit (eqb i j))) 64 (every_at (λ j. every (λ i. eqb (level_in i (one_at j)) (bit (eqb i j))) 64) 64 tt j h) i k)

pub one_lane : (j i : ℕ) → j < 64 → i < 64 → lane i (one_at j) ≡ eqb i j
one_lane j i h k = ap (λ (v : ℕ). eqb v 1) (one_level j i h k) ∙ of_bit (eqb i j)
  where
    of_bit : (b : Bool) → eqb (bit b) 1 ≡ b
    of_bit true = refl
    of_bit false = refl

-- ---- the bits of a word

pub bits_mod : (n w : ℕ) → bits_of n (w % 2 ^ n) ≡ bits_of n w
unfolding bits_of
bits_mod zero w = refl
bits_mod (suc n) w =
    let e : suc n ≡ n + 1 = omega arith in
    let low : w % 2 ^ suc n % 2 ≡ w % 2 = ap (λ (k : ℕ). w % 2 ^ k % 2) e ∙ mod-mod-pow w n 1 in
    let high : w % 2 ^ suc n / 2 ≡ w / 2 % 2 ^ n = ap (λ (k : ℕ). w % 2 ^ k / 2) e ∙ field w n 1 in
    ap₂ (λ (x : ℕ) (l : List ℕ). x ∷ l) low (ap (bits_of n) high ∙ bits_mod n (w / 2))
