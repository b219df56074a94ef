-- Writing the bits of a word and the rails that spell them: what one turn of each loop leaves.
-- Assumes nothing.
use Prim.Native.Nat.{ℕ, zero, suc, ◌+◌, ◌-◌, ◌*◌, ◌/◌, ◌%◌, ◌≤◌, ◌<◌}
use native.Mathlib.Omega.{arith}
use native.Mathlib.Numerals.{add-one}
use mathlib.Core.Path.{◌≡◌, refl, sym, ap, ap₂, ◌∙◌}
use mathlib.Core.List.{List, [], ◌∷◌, ◌++◌, append-nil, append_assoc}
use lib.ListN.{length, take, set, length-set}
use lib.Seq.{take-suc-set, take-length}
use Rattle.netlist.specs.declared.Counts.{Counts}
use Rattle.verdict.specs.Words.{bits_of, rails_of}
use Rattle.circuit.specs.Rows.{RowFor, rail_part}
use Rattle.circuit.proofs.Settling.{row_set}

-- ---- bits

-- the bits of a word do not depend on how many are asked for
pub bits_prefix : (n m w : ℕ) → n ≤ m → take n (bits_of m w) ≡ bits_of n w
unfolding bits_of
bits_prefix zero m w h = refl
bits_prefix (suc n) zero w h = absurd (omega arith)
bits_prefix (suc n) (suc m) w h = ap (λ (l : List ℕ). w % 2 ∷ l) (bits_prefix n m (w / 2) (omega arith))

-- the first i bits are written, and those of `rest` are to come
pub record BitsTo (w long : ℕ) (bits : List ℕ) (rest i : ℕ) : Type 0 where
  pub within : i ≤ long
  pub same_long : length bits ≡ long
  pub all : take i bits ++ bits_of (long - i) rest ≡ bits_of long w

pub bits_start : (w : ℕ) (bits : List ℕ) → BitsTo w (length bits) bits w 0
bits_start w bits = record { within = omega arith; same_long = refl; all = ap (λ (n : ℕ). bits_of n w) (omega arith) }

module _ (w long : ℕ) (bits : List ℕ) (rest i : ℕ) (b : BitsTo w long bits rest i) where
  pub bits_turn : i < long → BitsTo w long (set bits i (rest % 2)) (rest / 2) (i + 1)
  unfolding bits_of
  bits_turn h =
      let e : long - i ≡ suc (long - (i + 1)) = omega arith in
      record {
        within = omega arith;
        same_long = length-set bits i (rest % 2) ∙ b.same_long;
        all =
            ap (λ (l : List ℕ). l ++ bits_of (long - (i + 1)) (rest / 2))
            (ap (λ (n : ℕ). take n (set bits i (rest % 2))) (add-one i) ∙ take-suc-set bits i (rest % 2) (omega (arith, b.same_long)))
            ∙ append_assoc (take i bits) (rest % 2 ∷ []) (bits_of (long - (i + 1)) (rest / 2))
            ∙ sym (ap (λ (n : ℕ). take i bits ++ bits_of n rest) e)
            ∙ b.all;
      }

  pub bits_done : long ≤ i → bits ≡ bits_of long w
  unfolding bits_of
  bits_done h =
      let e : i ≡ length bits = omega (arith, b.within, b.same_long) in
      let z : long - i ≡ 0 = omega arith in
      sym (append-nil bits) ∙ sym (ap₂ (λ (n m : ℕ). take n bits ++ bits_of m rest) e z ∙ ap (λ (l : List ℕ). l ++ []) (take-length bits)) ∙ b.all

-- ---- rails

-- the rails of the first i inputs are written, and those of `rest` are to come
pub record SpeltTo (c : Counts) (w : ℕ) (start row : List ℕ) (rest i : ℕ) : Type 0 where
  pub row_for_holds : RowFor c row
  pub same_long : length row ≡ length start
  pub within : i ≤ c.inputs
  pub all : take (2 * i) row ++ rails_of (bits_of (c.inputs - i) rest) ≡ rails_of (bits_of c.inputs w)

pub spelt_start : (c : Counts) (w : ℕ) (row : List ℕ) → RowFor c row → SpeltTo c w row row w 0
spelt_start c w row r = record { row_for_holds = r; same_long = refl; within = omega arith; all = ap (λ (n : ℕ). rails_of (bits_of n w)) (omega arith) }

take-two : (row : List ℕ) (i x y : ℕ) → 2 * i + 1 < length row →
    take (2 * (i + 1)) (set (set row (2 * i) x) (2 * i + 1) y) ≡ take (2 * i) row ++ (x ∷ y ∷ [])
take-two row i x y h =
    let e : 2 * (i + 1) ≡ suc (2 * i + 1) = omega arith in
    ap (λ (n : ℕ). take n (set (set row (2 * i) x) (2 * i + 1) y)) e
    ∙ take-suc-set (set row (2 * i) x) (2 * i + 1) y (omega (arith, length-set row (2 * i) x))
    ∙ ap (λ (l : List ℕ). l ++ (y ∷ [])) (ap (λ (n : ℕ). take n (set row (2 * i) x)) (add-one (2 * i)) ∙ take-suc-set row (2 * i) x (omega arith))
    ∙ append_assoc (take (2 * i) row) (x ∷ []) (y ∷ [])

module _ (c : Counts) (w : ℕ) (start row : List ℕ) (rest i : ℕ) (s : SpeltTo c w start row rest i) where
  pub spelt_turn : i < c.inputs → SpeltTo c w start (set (set row (2 * i) (1 - rest % 2)) (2 * i + 1) (rest % 2)) (rest / 2) (i + 1)
  unfolding bits_of rails_of
  spelt_turn h =
      let b = rest % 2 in
      let e : c.inputs - i ≡ suc (c.inputs - (i + 1)) = omega arith in
      record {
        row_for_holds = row_set c (set row (2 * i) (1 - b)) (row_set c row s.row_for_holds (2 * i) (1 - b) (omega arith) (omega arith)) (2 * i + 1) b
            (omega arith) (omega arith);
        same_long = simp length-set s.same_long;
        within = omega arith;
        all =
            ap (λ (l : List ℕ). l ++ rails_of (bits_of (c.inputs - (i + 1)) (rest / 2))) (take-two row i (1 - b) b (omega (arith, s.row_for_holds.long)))
            ∙ append_assoc (take (2 * i) row) ((1 - b) ∷ b ∷ []) (rails_of (bits_of (c.inputs - (i + 1)) (rest / 2)))
            ∙ sym (ap (λ (n : ℕ). take (2 * i) row ++ rails_of (bits_of n rest)) e)
            ∙ s.all;
      }

  pub spelt_done : c.inputs ≤ i → rail_part c row ≡ rails_of (bits_of c.inputs w)
  unfolding bits_of rails_of
  spelt_done h =
      let e : i ≡ c.inputs = omega (arith, s.within) in
      let z : c.inputs - i ≡ 0 = omega arith in
      sym (append-nil (rail_part c row)) ∙ sym (ap₂ (λ (n m : ℕ). take (2 * n) row ++ rails_of (bits_of m rest)) e z) ∙ s.all
