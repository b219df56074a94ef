-- The bits of a name in turned order: those of so many inputs are the highest of those of more.
-- Assumes nothing.
use Prim.Native.Nat.{ℕ, zero, suc, ◌+◌, ◌*◌, ◌/◌, ◌%◌, ◌^◌, ◌≤◌, ◌<◌}
use native.Mathlib.Omega.{arith}
use native.Mathlib.Nat.{add-mul-div_left, div-eq_of_lt, pow-succ', mul-add, mul_assoc, mul_comm, zero-add}
use lib.Pow.{pow_pos, pow_mono}
use mathlib.Core.Path.{◌≡◌, refl, sym, ap, subst, ◌∙◌}
use mathlib.Core.List.{List, [], ◌∷◌, reverse_aux}
use Rattle.verdict.specs.declared.WordOrder.{WordOrder}
use Rattle.verdict.specs.declared.WordOrder.TheVariants.{FirstHighest, FirstLowest}
use Rattle.verdict.specs.Words.{bits_of, word_of, spelled}

-- n bits of a name are taken, the lowest first, and put behind a word
turn : ℕ → ℕ → ℕ → ℕ
turn zero name word = word
turn (suc n) name word = turn n (name / 2) (name % 2 + 2 * word)

turn_bits : (n name : ℕ) (bits : List ℕ) → word_of (reverse_aux (bits_of n name) bits) ≡ turn n name (word_of bits)
unfolding turn word_of bits_of
turn_bits zero name bits = refl
turn_bits (suc n) name bits = turn_bits n (name / 2) (name % 2 ∷ bits)

turn_spelled : (n name : ℕ) → turn n name 0 ≡ spelled FirstHighest n name
unfolding spelled word_of
turn_spelled n name = sym (turn_bits n name [])

-- a bit and a word behind it, moved up by n bits
moved : (n bit word : ℕ) → 2 ^ n * (bit + 2 * word) ≡ 2 ^ n * bit + 2 ^ suc n * word
moved n bit word =
    mul-add (2 ^ n) bit (2 * word)
    ∙ ap (λ (x : ℕ). 2 ^ n * bit + x) (sym (mul_assoc (2 ^ n) 2 word) ∙ ap (λ (x : ℕ). x * word) (mul_comm (2 ^ n) 2 ∙ sym (pow-succ' 2 n)))

-- the word that stood before is moved up
turn_before : (n name word : ℕ) → turn n name word ≡ turn n name 0 + 2 ^ n * word
unfolding turn
turn_before zero name word = omega arith
turn_before (suc n) name word =
    let bit = name % 2 in
    let one : turn (suc n) name word ≡ turn n (name / 2) 0 + 2 ^ n * (bit + 2 * word) = turn_before n (name / 2) (bit + 2 * word) in
    let two : turn (suc n) name 0 ≡ turn n (name / 2) 0 + 2 ^ n * (bit + 2 * 0) = turn_before n (name / 2) (bit + 2 * 0) in
    omega (arith, one, two, moved n bit word, moved n bit 0)

turn_below : (n name : ℕ) → turn n name 0 < 2 ^ n
unfolding turn
turn_below zero name = omega arith
turn_below (suc n) name =
    let bit = name % 2 in
    let one : turn (suc n) name 0 ≡ turn n (name / 2) 0 + 2 ^ n * (bit + 2 * 0) = turn_before n (name / 2) (bit + 2 * 0) in
    let p : 2 ^ suc n ≡ 2 * 2 ^ n = pow-succ' 2 n in
    go bit (omega arith) one p (turn_below n (name / 2))
  where
    go : (b : ℕ) → b < 2 → turn (suc n) name 0 ≡ turn n (name / 2) 0 + 2 ^ n * (b + 2 * 0) → 2 ^ suc n ≡ 2 * 2 ^ n → turn n (name / 2) 0 < 2 ^ n
        → turn (suc n) name 0 < 2 ^ suc n
    go zero h one p below = omega arith
    go (suc zero) h one p below = omega arith
    go (suc (suc b)) h one p below = absurd (omega arith)

-- more bits are turned after the first
turn_more : (n m name word : ℕ) → (rest : ℕ) × (turn (n + m) name word ≡ turn m rest (turn n name word))
unfolding turn
turn_more zero m name word = let e : 0 + m ≡ m = omega arith in (name, ap (λ (k : ℕ). turn k name word) e)
turn_more (suc n) m name word =
    let e : suc n + m ≡ suc (n + m) = omega arith in
    let (rest, more) = turn_more n m (name / 2) (name % 2 + 2 * word) in
    (rest, ap (λ (k : ℕ). turn k name word) e ∙ more)

-- the bits of n inputs are the highest of those of n + m
pub turned_highest : (n m name : ℕ) → spelled FirstHighest (n + m) name / 2 ^ m ≡ spelled FirstHighest n name
turned_highest n m name =
    let (rest, e) = turn_more n m name 0 in
    let low = turn m rest 0 in
    let word = turn n name 0 in
    let all : spelled FirstHighest (n + m) name ≡ low + 2 ^ m * word = sym (turn_spelled (n + m) name) ∙ e ∙ turn_before m rest word in
    ap (λ (x : ℕ). x / 2 ^ m) all ∙ add-mul-div_left low word (pow_pos m) ∙ ap (λ (x : ℕ). x + word) (div-eq_of_lt (turn_below m rest))
    ∙ zero-add word
    ∙ turn_spelled n name

-- the lowest bit and the others of what a number leaves by a power of two
half_16 : (x : ℕ) → x % 32 / 2 ≡ x / 2 % 16
half_16 x = omega arith

half_8 : (x : ℕ) → x % 16 / 2 ≡ x / 2 % 8
half_8 x = omega arith

half_4 : (x : ℕ) → x % 8 / 2 ≡ x / 2 % 4
half_4 x = omega arith

half_2 : (x : ℕ) → x % 4 / 2 ≡ x / 2 % 2
half_2 x = omega arith

bit_32 : (x : ℕ) → x % 32 % 2 ≡ x % 2
bit_32 x = omega arith

bit-16 : (x : ℕ) → x % 16 % 2 ≡ x % 2
bit-16 x = omega arith

bit-8 : (x : ℕ) → x % 8 % 2 ≡ x % 2
bit-8 x = omega arith

bit-4 : (x : ℕ) → x % 4 % 2 ≡ x % 2
bit-4 x = omega arith

bit-2 : (x : ℕ) → x % 2 % 2 ≡ x % 2
bit-2 x = omega arith

-- five bits are those of what a name leaves by 32
turn_five : (name : ℕ) → turn 5 name 0 ≡ turn 5 (name % 32) 0
unfolding turn
turn_five name =
    let x1 = name / 2 in
    let x2 = x1 / 2 in
    let x3 = x2 / 2 in
    rw (half_16 name, half_8 x1, half_4 x2, half_2 x3, bit_32 name, bit-16 x1, bit-8 x2, bit-4 x3, bit-2 (x3 / 2)) refl

turn_ten : (name : ℕ) → turn 10 name 0 ≡ turn 5 (name / 2 / 2 / 2 / 2 / 2) (turn 5 name 0)
unfolding turn
turn_ten name = refl

-- ten bits, five at a time
pub turned_ten : (name : ℕ) → spelled FirstHighest 10 name ≡ spelled FirstHighest 5 (name / 32 % 32) + 32 * spelled FirstHighest 5 (name % 32)
turned_ten name =
    sym (turn_spelled 10 name)
    ∙ turn_ten name
    ∙ turn_before 5 (name / 2 / 2 / 2 / 2 / 2) (turn 5 name 0)
    ∙ ap (λ (x : ℕ). turn 5 x 0 + 32 * turn 5 name 0) half
    ∙ ap (λ (x : ℕ). x + 32 * turn 5 name 0) (turn_five (name / 32) ∙ turn_spelled 5 (name / 32 % 32))
    ∙ ap (λ (x : ℕ). spelled FirstHighest 5 (name / 32 % 32) + 32 * x) (turn_five name ∙ turn_spelled 5 (name % 32))
  where
    half : name / 2 / 2 / 2 / 2 / 2 ≡ name / 32
    half = omega arith

pub turned_below : (n name : ℕ) → spelled FirstHighest n name < 2 ^ n
turned_below n name = subst (λ (x : ℕ). x < 2 ^ n) (turn_spelled n name) (turn_below n name)

-- the word that a name of sixteen bits spells has no more
pub spelled_fits : (order : WordOrder) (n name : ℕ) → n ≤ 10 → name < 65536 → spelled order n name < 65536
unfolding spelled
spelled_fits FirstHighest n name h l = omega (arith, turned_below n name, pow_mono {i = n} {j = 10} h)
spelled_fits FirstLowest n name h l = l
