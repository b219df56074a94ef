-- The goals of the rails: a word's without an input, or with one alone; and the numbers that a verdict names. Assumes nothing.
use Prim.Native.Nat.{ℕ, zero, suc, ◌+◌, ◌*◌, ◌/◌, ◌<◌}
use native.Mathlib.Omega.{arith}
use mathlib.Core.Path.{◌≡◌, refl, sym, ap, ◌∙◌}
use mathlib.Core.Logic.{◌⊎◌, inl, inr}
use mathlib.Core.Bool.{Bool, not, ◌&&◌, and-true, and-false}
use mathlib.Core.List.{List}
use lib.ListN.{get_or, set, replicate}
use lib.Dec.{ltb}
use borrow.Author.Tests.{eq-eqb, ne_eqb}
use Rattle.netlist.specs.declared.Counts.{Counts}
use Rattle.verdict.specs.Words.{bits_of, rails_of}
use Rattle.check_spec.specs.Words.{rails_for}
use Rattle.circuit.specs.Rows.{row_size, RowFor, rail_part}
use Rattle.circuit_steps.proofs.Goals.{level_in, spelt, pair_row, pair_at_holds}
use Rattle.call_witness.specs.Lists.{without, alone, GoalIn}

module _ (c : Counts) (w : ℕ) (row : List ℕ) (ro : RowFor c row) (e : rail_part c row ≡ rails_of (bits_of c.inputs w)) (i : ℕ) where
  -- no input is left out
  pub without_none : ¬ (i < c.inputs) → GoalIn c row (without w i)
  without_none d k h =
      spelt c row ro w e k h ∙ sym (ap (λ (b : Bool). rails_for w k && not b) (ne_eqb (k / 2) i (λ q. d (omega arith))) ∙ and-true (rails_for w k))

  module _ (input : i < c.inputs) where
    abbrev cleared : List ℕ
    cleared = set (set row (2 * i) 0) (2 * i + 1) 0

    pub without_row : RowFor c cleared
    without_row = pair_row c row ro i 0 0 input (omega arith) (omega arith)

    pub without_one : GoalIn c cleared (without w i)
    without_one k h = level_in c cleared without_row k (omega arith) ∙ go (pair_at_holds c row ro i 0 0 input (omega arith) (omega arith) k)
      where
        out : k / 2 ≡ i → get_or cleared k 0 ≡ 0 → ltb 0 (get_or cleared k 0) ≡ without w i k
        out p z = ap (λ (y : ℕ). ltb 0 y) z ∙ sym (ap (λ (b : Bool). rails_for w k && not b) (eq-eqb (k / 2) i p) ∙ and-false (rails_for w k))

        go : ((k ≡ 2 * i) × (get_or cleared k 0 ≡ 0)) ⊎ ((k ≡ 2 * i + 1) × (get_or cleared k 0 ≡ 0)) ⊎ ((¬ (k / 2 ≡ i)) × (get_or cleared k 0 ≡ get_or row k 0))
            → ltb 0 (get_or cleared k 0) ≡ without w i k
        go (inl (p, z)) = out (omega arith) z
        go (inr (inl (p, z))) = out (omega arith) z
        go (inr (inr (d, z))) =
            ap (λ (y : ℕ). ltb 0 y) z ∙ sym (level_in c row ro k (omega arith)) ∙ spelt c row ro w e k h
            ∙ sym (ap (λ (b : Bool). rails_for w k && not b) (ne_eqb (k / 2) i d) ∙ and-true (rails_for w k))

zeros : (m k : ℕ) → get_or {A = ℕ} (replicate m 0) k 0 ≡ 0
zeros zero k = refl
zeros (suc m) zero = refl
zeros (suc m) (suc k) = zeros m k

module _ (c : Counts) (w : ℕ) (low : RowFor c (replicate row_size 0)) (i : ℕ) where
  pub alone_none : ¬ (i < c.inputs) → GoalIn c (replicate row_size 0) (alone w i)
  alone_none d k h =
      level_in c (replicate row_size 0) low k (omega arith) ∙ ap (λ (x : ℕ). ltb 0 x) (zeros row_size k)
      ∙ sym (ap (λ (b : Bool). rails_for w k && b) (ne_eqb (k / 2) i (λ q. d (omega arith))) ∙ and-false (rails_for w k))

  module _ (row : List ℕ) (ro : RowFor c row) (e : rail_part c row ≡ rails_of (bits_of c.inputs w)) (input : i < c.inputs) where
    abbrev now : List ℕ
    now = set (set (replicate row_size 0) (2 * i) (get_or row (2 * i) 0)) (2 * i + 1) (get_or row (2 * i + 1) 0)

    pub alone_row : RowFor c now
    alone_row = pair_row c (replicate row_size 0) low i (get_or row (2 * i) 0) (get_or row (2 * i + 1) 0) input (ro.bit (2 * i) (omega arith)) (ro.bit (2 * i + 1) (omega arith))

    pub alone_one : GoalIn c now (alone w i)
    alone_one k h =
        level_in c now alone_row k (omega arith)
        ∙ go (pair_at_holds c (replicate row_size 0) low i (get_or row (2 * i) 0) (get_or row (2 * i + 1) 0) input (ro.bit (2 * i) (omega arith)) (ro.bit (2 * i + 1) (omega arith)) k)
      where
        there : (j : ℕ) → k ≡ j → k / 2 ≡ i → get_or now k 0 ≡ get_or row j 0 → ltb 0 (get_or now k 0) ≡ alone w i k
        there j p q z =
            ap (λ (y : ℕ). ltb 0 y) (z ∙ ap (λ (a : ℕ). get_or row a 0) (sym p)) ∙ sym (level_in c row ro k (omega arith)) ∙ spelt c row ro w e k h
            ∙ sym (ap (λ (b : Bool). rails_for w k && b) (eq-eqb (k / 2) i q) ∙ and-true (rails_for w k))

        go : ((k ≡ 2 * i) × (get_or now k 0 ≡ get_or row (2 * i) 0)) ⊎ ((k ≡ 2 * i + 1) × (get_or now k 0 ≡ get_or row (2 * i + 1) 0))
            ⊎ ((¬ (k / 2 ≡ i)) × (get_or now k 0 ≡ get_or {A = ℕ} (replicate row_size 0) k 0)) → ltb 0 (get_or now k 0) ≡ alone w i k
        go (inl (p, z)) = there (2 * i) p (omega arith) z
        go (inr (inl (p, z))) = there (2 * i + 1) p (omega arith) z
        go (inr (inr (d, z))) =
            ap (λ (y : ℕ). ltb 0 y) (z ∙ zeros row_size k) ∙ sym (ap (λ (b : Bool). rails_for w k && b) (ne_eqb (k / 2) i d) ∙ and-false (rails_for w k))
