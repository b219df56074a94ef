-- Four counters side by side, in a number of 64 bits: what one digit of each adds to it, and each taken out again.
-- Assumes nothing.
use Prim.Native.Nat.{ℕ, ◌+◌, ◌-◌, ◌*◌, ◌/◌, ◌%◌, ◌^◌, ◌≤◌, ◌<◌}
use native.Mathlib.Omega.{arith}
use native.Mathlib.Nat.{add_comm, mod-lt}
use mathlib.Core.Path.{◌≡◌, sym, ap, ap₂, ◌∙◌}
use mathlib.Core.List.{List}
use lib.ListN.{length, get_or, drop, length-drop}
use lib.Seq.{drop-length}
use lib.Dec.{lit<}
use lib.Pow.{pow_mono, split, shr-shr}
use lib.Bits.{bit_and, and_block, and_mask, and_le_r}
use Rattle.lane_cells.specs.Lane.{level_in}
use Rattle.lane_count.specs.Counters.{counted, counted_beside}
use Rattle.lane_count.proofs.Adding.{counted_small, counted_from}

-- ---- one digit of each

-- the lowest of 16 bits, and those above by what is left of the mask
mask_low : (y mask : ℕ) → bit_and y (mask * 2 ^ 16 + 1) ≡ bit_and (y / 2 ^ 16) mask * 2 ^ 16 + y % 2
mask_low y mask =
    ap (λ (n : ℕ). bit_and n (mask * 2 ^ 16 + 1)) (sym (split y 16))
    ∙ and_block 16 (y / 2 ^ 16) mask (y % 2 ^ 16) 1 (mod-lt y (lit< tt)) (lit< tt)
    ∙ ap (λ (n : ℕ). bit_and (y / 2 ^ 16) mask * 2 ^ 16 + n) (and_mask (y % 2 ^ 16) 1 ∙ omega arith)

level-up : (k j x : ℕ) → level_in (k + j) x ≡ x / 2 ^ j / 2 ^ k % 2
unfolding level_in
level-up k j x = ap (λ (n : ℕ). x / 2 ^ n % 2) (add_comm k j) ∙ ap (λ (n : ℕ). n % 2) (sym (shr-shr x j k))

beside : (m₀ m₁ m₂ m₃ a b c : ℕ) → m₀ ≡ m₁ * 0x10000 + a → m₁ ≡ m₂ * 0x10000 + b → m₂ ≡ m₃ * 0x10000 + c → m₀ ≡ a + 0x10000 * (b + 0x10000 * (c + 0x10000 * m₃))
beside m₀ m₁ m₂ m₃ a b c p q r = omega arith

levels_beside : (j x : ℕ)
    → bit_and (x / 2 ^ j) 0x0001000100010001 ≡ level_in j x + 0x10000 * (level_in (16 + j) x + 0x10000 * (level_in (32 + j) x + 0x10000 * level_in (48 + j) x))
unfolding level_in
levels_beside j x =
    let y = x / 2 ^ j in
    let up : (k : ℕ) → y / 2 ^ k % 2 ≡ x / 2 ^ (k + j) % 2 = λ k. sym (level-up k j x) in
    beside (bit_and y 0x0001000100010001) (bit_and (y / 2 ^ 16) 0x000100010001) (bit_and (y / 2 ^ 16 / 2 ^ 16) 0x00010001) (x / 2 ^ (48 + j) % 2) (y % 2)
    (x / 2 ^ (16 + j) % 2) (x / 2 ^ (32 + j) % 2) (mask_low y 0x000100010001)
    (mask_low (y / 2 ^ 16) 0x00010001 ∙ ap (λ (n : ℕ). bit_and (y / 2 ^ 16 / 2 ^ 16) 0x00010001 * 0x10000 + n) (up 16))
    (mask_low (y / 2 ^ 16 / 2 ^ 16) 1
    ∙ ap₂ (λ (m n : ℕ). m * 0x10000 + n) (and_mask (y / 2 ^ 16 / 2 ^ 16 / 2 ^ 16) 1
    ∙ ap (λ (n : ℕ). n % 2) (ap (λ (n : ℕ). n / 2 ^ 16) (shr-shr y 16 16) ∙ shr-shr y 32 16) ∙ up 48)
    (ap (λ (n : ℕ). n % 2) (shr-shr y 16 16) ∙ up 32))

-- ---- the loop that reads, from the highest digit on

module _ (j : ℕ) (l : List ℕ) (i : ℕ) (after : 0 < i) (inside : i ≤ length l) where
  next : (k : ℕ) → counted k (drop (i - 1) l) ≡ 2 * counted k (drop i l) + level_in k (get_or l (i - 1) 0)
  next k =
      let e : i - 1 + 1 ≡ i = omega arith in
      omega (arith, counted_from k l (i - 1) (omega arith), ap (λ (n : ℕ). counted k (drop n l)) e)

  pub beside_next : counted_beside j (drop (i - 1) l) ≡ 2 * counted_beside j (drop i l) + bit_and (get_or l (i - 1) 0 / 2 ^ j) 0x0001000100010001
  beside_next = omega (arith, next j, next (16 + j), next (32 + j), next (48 + j), levels_beside j (get_or l (i - 1) 0))

  -- what is read so far leaves a bit free in each
  pub beside_fits : length l ≤ 16 → counted_beside j (drop i l) ≤ 0x7fff7fff7fff7fff
  beside_fits few =
      let fits : (k : ℕ) → counted k (drop i l) < 0x8000 =
      λ k. omega (arith, counted_small k (drop i l), pow_mono {i = length (drop i l)} {j = 15} (omega (arith, length-drop i l))) in
      omega (arith, fits j, fits (16 + j), fits (32 + j), fits (48 + j))

  pub mask_small : bit_and (get_or l (i - 1) 0 / 2 ^ j) 0x0001000100010001 ≤ 0x0001000100010001
  mask_small = and_le_r (get_or l (i - 1) 0 / 2 ^ j) 0x0001000100010001

pub beside_none : (j : ℕ) (l : List ℕ) → 0 ≡ counted_beside j (drop (length l) l)
beside_none j l = sym (ap (counted_beside j) (drop-length l))

-- ---- taken out again

module _ (j : ℕ) (l : List ℕ) (few : length l ≤ 16) where
  small : (k : ℕ) → counted k l < 0x10000
  small k = omega (arith, counted_small k l, pow_mono {i = length l} {j = 16} few)

  pub first_of : counted_beside j l % 65536 ≡ counted j l
  first_of = omega (arith, small j)

  pub second-of : counted_beside j l / 65536 % 65536 ≡ counted (16 + j) l
  second-of = omega (arith, small j, small (16 + j))

  pub third_of : counted_beside j l / 4294967296 % 65536 ≡ counted (32 + j) l
  third_of = omega (arith, small j, small (16 + j), small (32 + j))

  pub fourth_of : counted_beside j l / 281474976710656 ≡ counted (48 + j) l
  fourth_of = omega (arith, small j, small (16 + j), small (32 + j))
