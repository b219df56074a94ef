-- AND, OR and XOR of numbers go lane by lane.
-- Assumes nothing.
use Prim.Native.Nat.{ℕ, zero, suc, ◌/◌, ◌%◌, ◌^◌, ◌≤◌, ◌<◌, min, max}
use native.Mathlib.Omega.{arith}
use native.Mathlib.Nat.{zero-div, mod-lt}
use mathlib.Core.Path.{◌≡◌, refl, ap, ◌∙◌}
use mathlib.Core.Bool.{Bool, true, false, not, ◌&&◌, ◌||◌}
use lib.Dec.{eqb, lit<}
use lib.Bits.{bit_and, bit_or, bit_xor, differ, and_shr, or_shr, xor_shr, and_step, or_step, xor_step}
use Rattle.lane_cells.specs.Lane.{level_in, lane}

pub level_small : (j x : ℕ) → level_in j x ≤ 1
unfolding level_in
level_small j x = let h : x / 2 ^ j % 2 < 2 = mod-lt (x / 2 ^ j) (lit< tt) in omega arith

pub level_zero : (j : ℕ) → level_in j 0 ≡ 0
unfolding level_in
level_zero j = simp zero-div

pub lane_zero : (j : ℕ) → lane j 0 ≡ false
lane_zero j = rw (level_zero j)

-- an operation on numbers that goes digit by digit as one on bits does
bitwise : (f : ℕ → ℕ → ℕ) (p : Bool → Bool → Bool) → eqb (f 0 0) 1 ≡ p false false → eqb (f 0 1) 1 ≡ p false true → eqb (f 1 0) 1 ≡ p true false
    → eqb (f 1 1) 1 ≡ p true true → (a b : ℕ) → a ≤ 1 → b ≤ 1 → eqb (f a b) 1 ≡ p (eqb a 1) (eqb b 1)
bitwise f p e00 e01 e10 e11 zero zero h k = e00
bitwise f p e00 e01 e10 e11 zero (suc zero) h k = e01
bitwise f p e00 e01 e10 e11 (suc zero) zero h k = e10
bitwise f p e00 e01 e10 e11 (suc zero) (suc zero) h k = e11
bitwise f p e00 e01 e10 e11 zero (suc (suc b)) h k = absurd (omega arith)
bitwise f p e00 e01 e10 e11 (suc zero) (suc (suc b)) h k = absurd (omega arith)
bitwise f p e00 e01 e10 e11 (suc (suc a)) b h k = absurd (omega arith)

differ_small : (a b : ℕ) → a < 2 → b < 2 → differ a b < 2
differ_small zero b h k = k
differ_small (suc zero) zero h k = lit< tt
differ_small (suc zero) (suc b) h k = omega arith
differ_small (suc (suc a)) b h k = absurd (omega arith)

pub level_and : (j a b : ℕ) → level_in j (bit_and a b) ≡ min (level_in j a) (level_in j b)
unfolding level_in
level_and j a b = ap (λ (x : ℕ). x % 2) (and_shr a b j) ∙ digit (a / 2 ^ j) (b / 2 ^ j)
  where
    digit : (x y : ℕ) → bit_and x y % 2 ≡ min (x % 2) (y % 2)
    digit x y = omega (arith, and_step x y)

pub level_or : (j a b : ℕ) → level_in j (bit_or a b) ≡ max (level_in j a) (level_in j b)
unfolding level_in
level_or j a b = ap (λ (x : ℕ). x % 2) (or_shr a b j) ∙ digit (a / 2 ^ j) (b / 2 ^ j)
  where
    digit : (x y : ℕ) → bit_or x y % 2 ≡ max (x % 2) (y % 2)
    digit x y = omega (arith, or_step x y)

pub level_xor : (j a b : ℕ) → level_in j (bit_xor a b) ≡ differ (level_in j a) (level_in j b)
unfolding level_in
level_xor j a b = ap (λ (x : ℕ). x % 2) (xor_shr a b j) ∙ digit (a / 2 ^ j) (b / 2 ^ j)
  where
    digit : (x y : ℕ) → bit_xor x y % 2 ≡ differ (x % 2) (y % 2)
    digit x y = omega (arith, xor_step x y, differ_small (x % 2) (y % 2) (mod-lt x (lit< tt)) (mod-lt y (lit< tt)))

pub lane_and : (j a b : ℕ) → lane j (bit_and a b) ≡ (lane j a && lane j b)
lane_and j a b = ap (λ (x : ℕ). eqb x 1) (level_and j a b) ∙ bitwise min (λ x y. x && y) refl refl refl refl (level_in j a) (level_in j b) (level_small j a) (level_small j b)

pub lane_or : (j a b : ℕ) → lane j (bit_or a b) ≡ (lane j a || lane j b)
lane_or j a b = ap (λ (x : ℕ). eqb x 1) (level_or j a b) ∙ bitwise max (λ x y. x || y) refl refl refl refl (level_in j a) (level_in j b) (level_small j a) (level_small j b)

abbrev pub unlike : Bool → Bool → Bool
unlike true b = not b
unlike false b = b

pub lane_xor : (j a b : ℕ) → lane j (bit_xor a b) ≡ unlike (lane j a) (lane j b)
lane_xor j a b = ap (λ (x : ℕ). eqb x 1) (level_xor j a b) ∙ bitwise differ unlike refl refl refl refl (level_in j a) (level_in j b) (level_small j a) (level_small j b)
