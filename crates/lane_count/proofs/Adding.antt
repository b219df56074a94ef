-- Counters that go up: a level is added to a digit, and what it carries to the next.
-- Assumes nothing.
use Prim.Native.Nat.{ℕ, zero, suc, ◌+◌, ◌*◌, ◌^◌, ◌≤◌, ◌<◌, min}
use native.Mathlib.Omega.{arith}
use native.Mathlib.Nat.{mul_assoc, mul-zero, pow-succ'}
use native.Mathlib.Numerals.{add-one}
use lib.Pow.{pow_mono}
use mathlib.Core.Path.{◌≡◌, refl, sym, ap, ap₂, ◌∙◌}
use mathlib.Core.List.{List, [], ◌∷◌}
use lib.ListN.{length, get_or, set, drop, replicate, length-set}
use lib.Bits.{bit_and, bit_xor, differ}
use Rattle.lane_cells.specs.Lane.{level_in}
use Rattle.lane_cells.proofs.Lane.{level_small, level_zero, level_and, level_xor}
use Rattle.lane_count.specs.Counters.{counted}

-- ---- one digit

digit_sum : (a b : ℕ) → a ≤ 1 → b ≤ 1 → a + b ≡ differ a b + 2 * min a b
digit_sum zero zero h k = refl
digit_sum zero (suc zero) h k = refl
digit_sum (suc zero) zero h k = refl
digit_sum (suc zero) (suc zero) h k = refl
digit_sum zero (suc (suc b)) h k = absurd (omega arith)
digit_sum (suc zero) (suc (suc b)) h k = absurd (omega arith)
digit_sum (suc (suc a)) b h k = absurd (omega arith)

pub level_sum : (j x y : ℕ) → level_in j x + level_in j y ≡ level_in j (bit_xor x y) + 2 * level_in j (bit_and x y)
level_sum j x y =
    digit_sum (level_in j x) (level_in j y) (level_small j x) (level_small j y)
    ∙ ap₂ (λ (a b : ℕ). a + 2 * b) (sym (level_xor j x y)) (sym (level_and j x y))

-- three levels: what two sums of two carry is never 1 in both
pub level_three : (j x y z : ℕ)
    → level_in j (bit_xor (bit_xor x y) z) + 2 * level_in j (bit_xor (bit_and x y) (bit_and (bit_xor x y) z)) ≡ level_in j x + level_in j y + level_in j z
level_three j x y z =
    omega (arith, level_sum j x y, level_sum j (bit_xor x y) z, level_sum j (bit_and x y) (bit_and (bit_xor x y) z), level_small j x, level_small j y, level_small j z)

-- ---- all digits

pub counted_zero : (j n : ℕ) → counted j (replicate n 0) ≡ 0
counted_zero j zero = refl
counted_zero j (suc n) = omega (arith, level_zero j, counted_zero j n)

pub counted_small : (j : ℕ) (l : List ℕ) → counted j l < 2 ^ length l
counted_small j [] = omega arith
counted_small j (x ∷ l) = omega (arith, level_small j x, counted_small j l, pow-succ' 2 (length l))

twice : (i v : ℕ) → 2 ^ suc i * v ≡ 2 * (2 ^ i * v)
twice i v = let e : 2 ^ suc i ≡ 2 * 2 ^ i = pow-succ' 2 i in rw e (mul_assoc 2 (2 ^ i) v)

-- a digit is replaced
counted-set : (j : ℕ) (l : List ℕ) (i x : ℕ) → i < length l → counted j (set l i x) + 2 ^ i * level_in j (get_or l i 0) ≡ counted j l + 2 ^ i * level_in j x
counted-set j [] i x h = absurd (omega arith)
counted-set j (y ∷ l) zero x h = omega arith
counted-set j (y ∷ l) (suc i) x h =
    omega (arith, counted-set j l i x (omega arith), twice i (level_in j (get_or l i 0)), twice i (level_in j x))

-- the digits from place i on
pub counted_from : (j : ℕ) (l : List ℕ) (i : ℕ) → i < length l → counted j (drop i l) ≡ level_in j (get_or l i 0) + 2 * counted j (drop (i + 1) l)
counted_from j [] i h = absurd (omega arith)
counted_from j (x ∷ l) zero h = refl
counted_from j (x ∷ l) (suc i) h = let e : suc i + 1 ≡ suc (i + 1) = omega arith in rw e (counted_from j l i (omega arith))

-- the three lowest are replaced
pub counted_low : (j : ℕ) (l : List ℕ) (x y z : ℕ) → 3 ≤ length l → counted j (set (set (set l 0 x) 1 y) 2 z)
    + (level_in j (get_or l 0 0) + 2 * (level_in j (get_or l 1 0) + 2 * level_in j (get_or l 2 0))) ≡ counted j l + (level_in j x + 2 * (level_in j y + 2 * level_in j z))
counted_low j [] x y z h = absurd (omega arith)
counted_low j (a ∷ []) x y z h = absurd (omega arith)
counted_low j (a ∷ b ∷ []) x y z h = absurd (omega arith)
counted_low j (a ∷ b ∷ c ∷ l) x y z h = omega arith

-- ---- the loop that adds

-- from place `from` on the digits before place i have the level added, and what they carry is still to be added there
pub record AddedTo (start : List ℕ) (from level : ℕ) (digits : List ℕ) (carry i : ℕ) : Type 0 where
  pub same_long : length digits ≡ length start
  pub carried : (j : ℕ) → counted j digits + 2 ^ i * level_in j carry ≡ counted j start + 2 ^ from * level_in j level

module _ (start : List ℕ) (from level : ℕ) where
  pub added_start : AddedTo start from level start level from
  added_start = record { same_long = refl; carried = λ j. refl }

  module _ (digits : List ℕ) (carry i : ℕ) (s : AddedTo start from level digits carry i) where
    pub added_more : i < length digits → AddedTo start from level (set digits i (bit_xor (get_or digits i 0) carry)) (bit_and (get_or digits i 0) carry) (i + 1)
    added_more h = record {
      same_long = length-set digits i (bit_xor (get_or digits i 0) carry) ∙ s.same_long;
      carried = more;
    }
      where
        x : ℕ
        x = get_or digits i 0

        more : (j : ℕ) → counted j (set digits i (bit_xor x carry)) + 2 ^ (i + 1) * level_in j (bit_and x carry) ≡ counted j start + 2 ^ from * level_in j level
        more j =
            let e : 2 ^ (i + 1) * level_in j (bit_and x carry) ≡ 2 * (2 ^ i * level_in j (bit_and x carry)) =
            ap (λ (n : ℕ). 2 ^ n * level_in j (bit_and x carry)) (add-one i) ∙ twice i (level_in j (bit_and x carry)) in
            let w : 2 ^ i * (level_in j x + level_in j carry) ≡ 2 ^ i * (level_in j (bit_xor x carry) + 2 * level_in j (bit_and x carry)) =
            ap (λ (n : ℕ). 2 ^ i * n) (level_sum j x carry) in
            omega (arith, counted-set j digits i (bit_xor x carry) h, s.carried j, e, w)

    -- nothing is carried out of counters that have room
    pub added_done : length digits ≤ i → ((j : ℕ) → counted j start + 2 ^ from * level_in j level < 2 ^ length start)
        → (j : ℕ) → counted j digits ≡ counted j start + 2 ^ from * level_in j level
    added_done h room j = go (level_in j carry) refl
      where
        go : (v : ℕ) → level_in j carry ≡ v → counted j digits ≡ counted j start + 2 ^ from * level_in j level
        go zero e = let q : 2 ^ i * level_in j carry ≡ 0 = rw e (mul-zero (2 ^ i)) in omega (arith, s.carried j, q)
        go (suc v) e =
            let q : 2 ^ i * level_in j carry ≡ 2 ^ i + 2 ^ i * v = rw e (omega arith) in
            absurd (omega (arith, s.carried j, q, room j, pow_mono {i = length start} {j = i} (omega (arith, s.same_long))))
