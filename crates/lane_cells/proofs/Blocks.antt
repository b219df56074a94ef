-- The bits of word 64 b + j: the lowest six are those of j, the others those of b.
-- Assumes nothing.
use Prim.Native.Nat.{ℕ, zero, suc, ◌+◌, ◌-◌, ◌*◌, ◌/◌, ◌%◌, ◌^◌, ◌≤◌, ◌<◌}
use native.Mathlib.Omega.{arith}
use native.Mathlib.Decide.{ℕ_discrete}
use native.Mathlib.Nat.{div-one, div-div-eq-div-mul, add-mul-div_left, add_comm, pow-succ'}
use mathlib.Core.Path.{◌≡◌, refl, sym, ap, ◌∙◌}
use mathlib.Core.Bool.{Bool, true, false, not}
use mathlib.Core.List.{List, [], ◌∷◌}
use lib.Dec.{T, eqb, eqb→eq}
use lib.ListN.{length, get_or, take, set, length-map}
use lib.Seq.{ext_get_or, get_or-take, length-take-le, get_or-set_same, get_or-set_other}
use lib.Bits.{bit_xor}
use lib.Pow.{pow-add, pow_pos}
use Rattle.gates.proofs.Every.{every, every_at}
use Rattle.verdict.specs.Words.{bits_of}
use Rattle.verdict.proofs.Words.{bits_of_length}
use Rattle.lane_cells.specs.Lane.{level_in, lane, lane_of}
use Rattle.lane_cells.proofs.Lane.{level_zero, unlike, lane_xor}

even_add : (n x y : ℕ) → n ≡ 2 * x + y → n % 2 ≡ y % 2
even_add n x y e = omega arith

-- 64 is 2 to the i, twice some number
sixty_four : (i : ℕ) → i < 6 → 64 ≡ 2 ^ i * (2 * 2 ^ (5 - i))
sixty_four zero h = refl
sixty_four (suc zero) h = refl
sixty_four (suc (suc zero)) h = refl
sixty_four (suc (suc (suc zero))) h = refl
sixty_four (suc (suc (suc (suc zero)))) h = refl
sixty_four (suc (suc (suc (suc (suc zero))))) h = refl
sixty_four (suc (suc (suc (suc (suc (suc i)))))) h = absurd (omega arith)

low_bit : (i b j : ℕ) → i < 6 → level_in i (64 * b + j) ≡ level_in i j
unfolding level_in
low_bit i b j h =
    let p = 2 ^ i in
    let x = 2 ^ (5 - i) in
    let q : p * (2 * x) * b + j ≡ j + p * (2 * (x * b)) = omega arith in
    let e : (64 * b + j) / p ≡ 2 * (x * b) + j / p =
    ap (λ (n : ℕ). (n * b + j) / p) (sixty_four i h) ∙ ap (λ (n : ℕ). n / p) q ∙ add-mul-div_left j (2 * (x * b)) (pow_pos i) ∙ add_comm (j / p) (2 * (x * b)) in
    even_add ((64 * b + j) / p) (x * b) (j / p) e

pub high_bit : (i b j : ℕ) → 6 ≤ i → j < 64 → level_in i (64 * b + j) ≡ level_in (i - 6) b
unfolding level_in
high_bit i b j h d =
    let e : i ≡ 6 + (i - 6) = omega arith in
    let q : (64 * b + j) / 64 ≡ b = omega arith in
    ap (λ (k : ℕ). (64 * b + j) / 2 ^ k % 2) e
    ∙ ap (λ (x : ℕ). (64 * b + j) / x % 2) (pow-add 2 6 (i - 6))
    ∙ ap (λ (x : ℕ). x % 2) (sym (div-div-eq-div-mul (64 * b + j) 64 (2 ^ (i - 6))) ∙ ap (λ (x : ℕ). x / 2 ^ (i - 6)) q)

-- a number whose bit j is bit i of j, in all 64 lanes
abbrev pub Pattern : ℕ → ℕ → Type 0
Pattern i x = T (every (λ j. eqb (level_in j x) (level_in i j)) 64)

pub pattern_at : (i x b : ℕ) → i < 6 → Pattern i x → (j : ℕ) → j < 64 → level_in j x ≡ level_in i (64 * b + j)
pattern_at i x b h t j d =
    eqb→eq (level_in j x) (level_in i j) (every_at (λ j. eqb (level_in j x) (level_in i j)) 64 t j d) ∙ sym (low_bit i b j h)

pub all-at : (j : ℕ) → j < 64 → level_in j 0xFFFF_FFFF_FFFF_FFFF ≡ 1
unfolding level_in
all-at j h = eqb→eq (level_in j 0xFFFF_FFFF_FFFF_FFFF) 1 (every_at (λ j. eqb (level_in j 0xFFFF_FFFF_FFFF_FFFF) 1) 64 tt j h)

-- XOR with all words is NOT
pub lane_not : (j x : ℕ) → j < 64 → lane j (bit_xor x 0xFFFF_FFFF_FFFF_FFFF) ≡ not (lane j x)
lane_not j x h = lane_xor j x 0xFFFF_FFFF_FFFF_FFFF ∙ ap (λ (n : ℕ). unlike (lane j x) (eqb n 1)) (all-at j h) ∙ turned (lane j x)
  where
    turned : (a : Bool) → unlike a true ≡ not a
    turned true = refl
    turned false = refl

-- ---- the bits of a word

pub bits_of_at : (n w i : ℕ) → i < n → get_or (bits_of n w) i 0 ≡ level_in i w
unfolding bits_of level_in
bits_of_at zero w i h = absurd (omega arith)
bits_of_at (suc n) w zero h = ap (λ (x : ℕ). x % 2) (sym (div-one w))
bits_of_at (suc n) w (suc i) h =
    bits_of_at n (w / 2) i (omega arith) ∙ ap (λ (x : ℕ). x % 2) (div-div-eq-div-mul w 2 (2 ^ i) ∙ ap (λ (x : ℕ). w / x) (sym (pow-succ' 2 i)))

pub level_at : (j : ℕ) (l : List ℕ) (i : ℕ) → get_or (lane_of j l) i 0 ≡ level_in j (get_or l i 0)
level_at j [] i = sym (level_zero j)
level_at j (x ∷ l) zero = refl
level_at j (x ∷ l) (suc i) = level_at j l i

pub bits_by : (n w : ℕ) (l : List ℕ) → n ≤ length l → ((i : ℕ) → i < n → get_or l i 0 ≡ level_in i w) → take n l ≡ bits_of n w
bits_by n w l h f =
    let long : length (take n l) ≡ n = length-take-le n l h in
    ext_get_or 0 (take n l) (bits_of n w) (long ∙ sym (bits_of_length n w)) (λ i d. get_or-take n l i 0 (omega arith) ∙ f i (omega arith) ∙ sym (bits_of_at n w i (omega arith)))

-- ---- after a store

pub lane_set : (j : ℕ) (l : List ℕ) (i x : ℕ) → lane_of j (set l i x) ≡ set (lane_of j l) i (level_in j x)
lane_set j [] i x = refl
lane_set j (y ∷ l) zero x = refl
lane_set j (y ∷ l) (suc i) x = ap (λ (m : List ℕ). level_in j y ∷ m) (lane_set j l i x)

pub length_lane : (j : ℕ) (l : List ℕ) → length (lane_of j l) ≡ length l
length_lane j l = length-map l (level_in j)

-- the inputs below i have their bits in all words of block b
abbrev pub SpelledTo : ℕ → List ℕ → ℕ → Type 0
SpelledTo b l i = (j k : ℕ) → j < 64 → k < i → level_in j (get_or l k 0) ≡ level_in k (64 * b + j)

pub spelled_more : (b : ℕ) (l : List ℕ) (i x : ℕ) → i < length l → SpelledTo b l i → ((j : ℕ) → j < 64 → level_in j x ≡ level_in i (64 * b + j)) → SpelledTo b (set l i x) (i + 1)
spelled_more b l i x h s e j k d n = go (ℕ_discrete k i)
  where
    go : Dec (k ≡ i) → level_in j (get_or (set l i x) k 0) ≡ level_in k (64 * b + j)
    go (yes q) = rw q (ap (level_in j) (get_or-set_same l i x 0 h) ∙ e j d)
    go (no q) = ap (level_in j) (get_or-set_other l i k x 0 q) ∙ s j k d (omega arith)

pub spelled_bits : (b n : ℕ) (l : List ℕ) → n ≤ length l → SpelledTo b l n → (j : ℕ) → j < 64 → take n (lane_of j l) ≡ bits_of n (64 * b + j)
spelled_bits b n l h s j d = bits_by n (64 * b + j) (lane_of j l) (omega (arith, length_lane j l)) (λ i q. level_at j l i ∙ s j i d q)
