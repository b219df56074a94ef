-- The rails of one input in 64 words: all NULL where the others are given, or kept where the others have fallen.
-- Assumes nothing.
use Prim.Native.Nat.{ℕ, ◌+◌, ◌*◌, ◌/◌, ◌<◌}
use native.Mathlib.Omega.{arith}
use native.Mathlib.Decide.{ℕ_discrete}
use mathlib.Core.Path.{◌≡◌, sym, ap, ◌∙◌}
use mathlib.Core.Bool.{Bool, true, false, not, ◌&&◌, ◌||◌, and-true, and-false}
use mathlib.Core.List.{List}
use lib.ListN.{length, get_or, set, replicate, length-set, get_or-replicate}
use lib.Seq.{get_or-set_same, get_or-set_other}
use Rattle.runs.specs.Row.{Row, ◌∖◌, only}
use Rattle.runs.specs.Net.{rails_of_inputs, may_fall}
use Rattle.runs.proofs.Test.{eqb_same, eqb_other, lt-ltb}
use Rattle.runs.proofs.Net.{by_net_rail}
use Rattle.runs.proofs.Rise.{settled_rail, settled_cong}
use Rattle.netlist.specs.declared.Counts.{Counts}
use Rattle.verdict.specs.Nets.{rails_for}
use Rattle.verdict.proofs.OneWord.{rest_settled, missing_settled, but_settled}
use Rattle.circuit.specs.Stage.{net_count, stage_in}
use Rattle.lane_cells.specs.Lane.{lane, row_in}
use Rattle.lane_cells.proofs.Lane.{lane_zero}
use Rattle.lane_settle.specs.Block.{rest_in, net_in, Spelled, Holding, AtRest}
use Rattle.lane_complete.specs.Rows.{SettledRows, FallenRows, missing_in, remaining_in, RailsLow}

-- ---- both rails of input i are written

abbrev pub rails_set : List ℕ → ℕ → (ℕ → ℕ) → List ℕ
rails_set row i f = set (set row (2 * i) (f (2 * i))) (2 * i + 1) (f (2 * i + 1))

module _ (row : List ℕ) (i : ℕ) (f : ℕ → ℕ) where
  pub set_long : length (rails_set row i f) ≡ length row
  set_long = simp length-set

  pub set_other : (p : ℕ) → ¬ (p / 2 ≡ i) → get_or (rails_set row i f) p 0 ≡ get_or row p 0
  set_other p n =
      get_or-set_other (set row (2 * i) (f (2 * i))) (2 * i + 1) p (f (2 * i + 1)) 0 (λ e. n (omega arith)) ∙ get_or-set_other row (2 * i) p (f (2 * i)) 0 (λ e. n (omega arith))

  pub set_there : 2 * i + 1 < length row → (p : ℕ) → p / 2 ≡ i → get_or (rails_set row i f) p 0 ≡ f p
  set_there room p e = go (ℕ_discrete p (2 * i + 1))
    where
      go : Dec (p ≡ 2 * i + 1) → get_or (rails_set row i f) p 0 ≡ f p
      go (yes q) = rw q (get_or-set_same (set row (2 * i) (f (2 * i))) (2 * i + 1) (f (2 * i + 1)) 0 (omega (arith, length-set row (2 * i) (f (2 * i)))))
      go (no n) =
          let q : p ≡ 2 * i = omega arith in
          rw q (get_or-set_other (set row (2 * i) (f (2 * i))) (2 * i + 1) (2 * i) (f (2 * i + 1)) 0 (λ z. omega arith) ∙ get_or-set_same row (2 * i) (f (2 * i)) 0 (omega arith))

-- a row of lanes that are all low
pub all_low_holds : (c : Counts) (n : ℕ) → net_count c < n → RailsLow c (replicate n 0)
all_low_holds c n room = record {
  ground = get_or-replicate n (net_count c) 0 0 room;
  rails = λ j p d h. ap (lane j) (get_or-replicate n p 0 0 (omega arith)) ∙ lane_zero j;
}

-- the rests of a block are settled
pub rest_rows : (c : Counts) (code : List ℕ) (b : ℕ) → SettledRows c code (rest_in c code b)
rest_rows c code b j =
    let s = rest_settled (stage_in c code) (64 * b + j) in
    settled_cong (net_in c code) (rails_for (stage_in c code) (64 * b + j)) (rest_in c code b j)
    (λ p l. sym (settled_rail (net_in c code) (rails_for (stage_in c code) (64 * b + j)) (rest_in c code b j) s p l)) (rest_in c code b j) s

-- ---- in the words of block b

module _ (c : Counts) (code : List ℕ) (b i : ℕ) (h : i < c.inputs) where
  abbrev X : Row
  X = rails_of_inputs (net_in c code) (only i)

  own : (p : ℕ) → p < 2 * c.inputs → p / 2 ≡ i → X p ≡ true
  own p l e = rw (lt-ltb p (2 * c.inputs) l, e) (eqb_same i)

  not_own : (p : ℕ) → p < 2 * c.inputs → ¬ (p / 2 ≡ i) → X p ≡ false
  not_own p l n = rw (lt-ltb p (2 * c.inputs) l) (eqb_other (p / 2) i n)

  -- with input i NULL
  pub missing_rows : SettledRows c code (missing_in c code b i)
  missing_rows j =
      let s = missing_settled (stage_in c code) (64 * b + j) i in
      settled_cong (net_in c code) (rails_for (stage_in c code) (64 * b + j) ∖ X) (missing_in c code b i j)
      (λ p l. sym (settled_rail (net_in c code) (rails_for (stage_in c code) (64 * b + j) ∖ X) (missing_in c code b i j) s p l)) (missing_in c code b i j) s

  missing-rail : (j p : ℕ) → p < 2 * c.inputs → missing_in c code b i j p ≡ (rest_in c code b j p && not (X p))
  missing-rail j p l =
      settled_rail (net_in c code) (rails_for (stage_in c code) (64 * b + j) ∖ X) (missing_in c code b i j) (missing_settled (stage_in c code) (64 * b + j) i) p l
      ∙ ap (λ (x : Bool). x && not (X p)) (sym (settled_rail (net_in c code) (rails_for (stage_in c code) (64 * b + j)) (rest_in c code b j) (rest_settled (stage_in c code) (64 * b + j)) p l))

  pub missing_spelled : (row : List ℕ) → 2 * i + 1 < length row → Spelled c (rest_in c code b) row → Spelled c (missing_in c code b i) (rails_set row i (λ p. 0))
  missing_spelled row room s = record {
    ground = set_other row i (λ p. 0) (net_count c) (λ e. omega arith) ∙ s.ground;
    rails = λ j p d l. go j p d l (ℕ_discrete (p / 2) i);
  }
    where
      go : (j p : ℕ) → j < 64 → p < 2 * c.inputs → Dec (p / 2 ≡ i) → row_in j (rails_set row i (λ p. 0)) p ≡ missing_in c code b i j p
      go j p d l (yes e) =
          ap (lane j) (set_there row i (λ p. 0) room p e) ∙ lane_zero j
          ∙ sym (missing-rail j p l ∙ ap (λ (x : Bool). rest_in c code b j p && not x) (own p l e) ∙ and-false (rest_in c code b j p))
      go j p d l (no n) =
          ap (lane j) (set_other row i (λ p. 0) p n) ∙ s.rails j p d l
          ∙ sym (missing-rail j p l ∙ ap (λ (x : Bool). rest_in c code b j p && not x) (not_own p l n) ∙ and-true (rest_in c code b j p))

  -- with all inputs fallen but i
  pub fallen_rows : FallenRows c code b i (remaining_in c code b i)
  fallen_rows j = but_settled (stage_in c code) (64 * b + j) i

  fallen-rail : (j p : ℕ) → p < 2 * c.inputs → remaining_in c code b i j p ≡ (rest_in c code b j p && (X p || false))
  fallen-rail j p l =
      fallen_rows j p
      ∙ ap (λ (x : Bool). rest_in c code b j p && (X p || not x)) (by_net_rail (net_in c code) p true (may_fall (net_in c code) (remaining_in c code b i j) p) l)

  fallen-low : (j p : ℕ) → p < 2 * c.inputs → ¬ (p / 2 ≡ i) → remaining_in c code b i j p ≡ false
  fallen-low j p l n = fallen-rail j p l ∙ ap (λ (x : Bool). rest_in c code b j p && (x || false)) (not_own p l n) ∙ and-false (rest_in c code b j p)

  pub fallen_spelled : (rest row : List ℕ) → 2 * i + 1 < length row → AtRest c code b rest → RailsLow c row
      → Spelled c (remaining_in c code b i) (rails_set row i (λ p. get_or rest p 0))
  fallen_spelled rest row room at_rest s = record {
    ground = set_other row i (λ p. get_or rest p 0) (net_count c) (λ e. omega arith) ∙ s.ground;
    rails = λ j p d l. go j p d l (ℕ_discrete (p / 2) i);
  }
    where
      go : (j p : ℕ) → j < 64 → p < 2 * c.inputs → Dec (p / 2 ≡ i) → row_in j (rails_set row i (λ p. get_or rest p 0)) p ≡ remaining_in c code b i j p
      go j p d l (yes e) =
          ap (lane j) (set_there row i (λ p. get_or rest p 0) room p e) ∙ at_rest j p d (omega arith)
          ∙ sym (fallen-rail j p l ∙ ap (λ (x : Bool). rest_in c code b j p && (x || false)) (own p l e) ∙ and-true (rest_in c code b j p))
      go j p d l (no n) = ap (lane j) (set_other row i (λ p. get_or rest p 0) p n) ∙ s.rails j p d l ∙ sym (fallen-low j p l n)

  -- and once its rails are low again
  pub fallen_low_again : (row : List ℕ) → 2 * i + 1 < length row → Holding c (remaining_in c code b i) row → RailsLow c (rails_set row i (λ p. 0))
  fallen_low_again row room s = record {
    ground = set_other row i (λ p. 0) (net_count c) (λ e. omega arith) ∙ s.ground;
    rails = λ j p d l. go j p d l (ℕ_discrete (p / 2) i);
  }
    where
      go : (j p : ℕ) → j < 64 → p < 2 * c.inputs → Dec (p / 2 ≡ i) → row_in j (rails_set row i (λ p. 0)) p ≡ false
      go j p d l (yes e) = ap (lane j) (set_there row i (λ p. 0) room p e) ∙ lane_zero j
      go j p d l (no n) = ap (lane j) (set_other row i (λ p. 0) p n) ∙ s.nets j p d (omega arith) ∙ fallen-low j p l n
