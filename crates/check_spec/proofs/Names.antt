-- Every word of a stage has a name, in either order.
-- Assumes nothing.
use Prim.Native.Nat.{ℕ, zero, suc, ◌+◌, ◌-◌, ◌*◌, ◌/◌, ◌%◌, ◌^◌, ◌≤◌, ◌<◌}
use native.Mathlib.Omega.{arith}
use native.Mathlib.Nat.{pow-succ', div-div-eq-div-mul}
use mathlib.Core.Path.{◌≡◌, refl, sym, ap, ap₂, ◌∙◌}
use mathlib.Core.Bool.{Bool, true, false}
use lib.Dec.{eqb, ltb}
use Rattle.gates.specs.Cell.{bit}
use Rattle.runs.proofs.Test.{and_in, and_left, and_right, lt-ltb, ltb-true}
use Rattle.verdict.specs.declared.WordOrder.{WordOrder}
use Rattle.verdict.specs.declared.WordOrder.TheVariants.{FirstHighest, FirstLowest}
use Rattle.verdict.specs.Graph.{In}
use Rattle.verdict.proofs.Words.{index_in, in_index}
use Rattle.verdict.proofs.Names.{select_in, in_select}
use Rattle.check_spec.specs.Lists.{numbers, bit_of, of_bits}
use Rattle.check_spec.specs.Content.{Content}
use Rattle.check_spec.specs.Words.{cares_for, spelled, names, IsWord}

-- ---- bits

pub bit_suc : (w i : ℕ) → bit_of w (suc i) ≡ bit_of (w / 2) i
bit_suc w i = ap (λ (x : ℕ). eqb (w / x % 2) 1) (pow-succ' 2 i) ∙ ap (λ (x : ℕ). eqb (x % 2) 1) (sym (div-div-eq-div-mul w 2 (2 ^ i)))

bit-low : (b : Bool) (m : ℕ) → bit_of (bit b + 2 * m) 0 ≡ b
bit-low true m = let e : (1 + 2 * m) / 1 % 2 ≡ 1 = omega arith in ap (λ (x : ℕ). eqb x 1) e
bit-low false m = let e : (0 + 2 * m) / 1 % 2 ≡ 0 = omega arith in ap (λ (x : ℕ). eqb x 1) e

half_of : (b : Bool) (m : ℕ) → (bit b + 2 * m) / 2 ≡ m
half_of true m = omega arith
half_of false m = omega arith

pub bit_of_holds : (n : ℕ) (b : ℕ → Bool) (i : ℕ) → i < n → bit_of (of_bits n b) i ≡ b i
unfolding of_bits
bit_of_holds zero b i h = absurd (omega arith)
bit_of_holds (suc n) b zero h = bit-low (b 0) (of_bits n (λ i. b (suc i)))
bit_of_holds (suc n) b (suc i) h =
    bit_suc (bit (b 0) + 2 * of_bits n (λ i. b (suc i))) i
    ∙ ap (λ (x : ℕ). bit_of x i) (half_of (b 0) (of_bits n (λ i. b (suc i)))) ∙ bit_of_holds n (λ i. b (suc i)) i (omega arith)

pub same_bits : (n : ℕ) (b c : ℕ → Bool) → ((i : ℕ) → i < n → b i ≡ c i) → of_bits n b ≡ of_bits n c
unfolding of_bits
same_bits zero b c h = refl
same_bits (suc n) b c h = ap₂ (λ (x : Bool) (y : ℕ). bit x + 2 * y) (h 0 (omega arith)) (same_bits n (λ i. b (suc i)) (λ i. c (suc i)) (λ i d. h (suc i) (omega arith)))

bit-≤ : (b : Bool) → bit b ≤ 1
bit-≤ true = omega arith
bit-≤ false = omega arith

pub of_bits_below : (n : ℕ) (b : ℕ → Bool) → of_bits n b < 2 ^ n
unfolding of_bits
of_bits_below zero b = omega arith
of_bits_below (suc n) b = omega (arith, bit-≤ (b 0), of_bits_below n (λ i. b (suc i)), pow-succ' 2 n)

odd : (m : ℕ) → m < 2 → bit (eqb m 1) ≡ m
odd zero h = refl
odd (suc zero) h = refl
odd (suc (suc m)) h = absurd (omega arith)

pub of_bits_holds : (n w : ℕ) → w < 2 ^ n → of_bits n (bit_of w) ≡ w
unfolding of_bits
of_bits_holds zero w h = omega arith
of_bits_holds (suc n) w h =
    let one : w / 1 % 2 ≡ w % 2 = omega arith in
    let low : bit (bit_of w 0) ≡ w % 2 = ap (λ (x : ℕ). bit (eqb x 1)) one ∙ odd (w % 2) (omega arith) in
    let high : of_bits n (λ i. bit_of w (suc i)) ≡ w / 2 =
    same_bits n (λ i. bit_of w (suc i)) (bit_of (w / 2)) (λ i d. bit_suc w i) ∙ of_bits_holds n (w / 2) (omega (arith, pow-succ' 2 n)) in
    omega (arith, low, high)

-- ---- names

-- the name of a word spells it, and is in range
pub named : (order : WordOrder) (n w : ℕ) → w < 2 ^ n → (name : ℕ) × (name < 2 ^ n) × (spelled order n name ≡ w)
unfolding spelled
named FirstLowest n w h = (w, h, refl)
named FirstHighest n w h =
    let turned : ℕ → Bool = λ i. bit_of w (n - (i + 1)) in (
      of_bits n turned,
      of_bits_below n turned,
      same_bits n (λ i. bit_of (of_bits n turned) (n - (i + 1))) (bit_of w) (λ i d.
          let e : n - (n - (i + 1) + 1) ≡ i = omega arith in
          bit_of_holds n turned (n - (i + 1)) (omega arith) ∙ ap (bit_of w) e)
          ∙ of_bits_holds n w h,
    )

-- every word of a stage is swept, under a name that spells it
pub word_named : (order : WordOrder) (s : Content) (w : ℕ) → IsWord s w → (name : ℕ) × In name (names order s) × (spelled order s.inputs name ≡ w)
unfolding names
word_named order s w h =
    let r = named order s.inputs w (ltb-true w (2 ^ s.inputs) (and_left (ltb w (2 ^ s.inputs)) (cares_for s w) h)) in
    let cares : cares_for s (spelled order s.inputs r.0) ≡ true = ap (cares_for s) r.2 ∙ and_right (ltb w (2 ^ s.inputs)) (cares_for s w) h in
    let below : r.0 < 2 ^ s.inputs = r.1 in
    (r.0, in_select (λ name. cares_for s (spelled order s.inputs name)) (numbers 0 (2 ^ s.inputs)) r.0 (index_in (2 ^ s.inputs) r.0 below) cares, r.2)

small : (order : WordOrder) (n name : ℕ) → name < 2 ^ n → spelled order n name < 2 ^ n
unfolding spelled
small FirstLowest n name h = h
small FirstHighest n name h = of_bits_below n (λ i. bit_of name (n - (i + 1)))

-- the names of a stage's words are below 2 to the n
pub named_below : (order : WordOrder) (s : Content) (name : ℕ) → In name (names order s) → name < 2 ^ s.inputs
unfolding names
named_below order s name i =
    in_index (2 ^ s.inputs) name (select_in (λ name. cares_for s (spelled order s.inputs name)) (numbers 0 (2 ^ s.inputs)) name i).0

-- a name spells a word of the stage
pub named_word : (order : WordOrder) (s : Content) (name : ℕ) → In name (names order s) → IsWord s (spelled order s.inputs name)
unfolding names
named_word order s name i =
    let w = spelled order s.inputs name in
    let r = select_in (λ name. cares_for s (spelled order s.inputs name)) (numbers 0 (2 ^ s.inputs)) name i in
    and_in (ltb w (2 ^ s.inputs)) (cares_for s w) (lt-ltb w (2 ^ s.inputs) (small order s.inputs name (in_index (2 ^ s.inputs) name r.0))) r.1
