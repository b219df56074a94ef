-- The rails of a block: what one turn of the loop leaves, and that in the end they are those of its words.
-- Assumes nothing.
use Prim.Native.Nat.{ℕ, zero, suc, ◌+◌, ◌*◌, ◌/◌, ◌≤◌, ◌<◌}
use native.Mathlib.Omega.{arith}
use native.Mathlib.Decide.{ℕ_discrete}
use mathlib.Core.Path.{◌≡◌, refl, sym, ap, ◌∙◌}
use mathlib.Core.Bool.{Bool, true, false, not}
use mathlib.Core.List.{List}
use lib.ListN.{length, get_or, set, length-set}
use lib.Seq.{get_or-set_same, get_or-set_other}
use lib.Dec.{eqb, ltb}
use lib.Bits.{bit_xor}
use Rattle.runs.specs.Net.{input_rail}
use Rattle.runs.specs.Theory.{word_rails}
use Rattle.runs.proofs.Net.{rail_of_input, word_rails_0, word_rails_1}
use Rattle.runs.proofs.Rise.{settled_rail}
use Rattle.netlist.specs.declared.Counts.{Counts}
use Rattle.verdict.specs.Rows.{high}
use Rattle.verdict.specs.Words.{bits_of}
use Rattle.verdict.specs.Nets.{rails_for, rest_row}
use Rattle.verdict.proofs.Words.{bits_of_length, bits_of_bit, rails_word}
use Rattle.circuit.specs.Stage.{net_count, stage_in}
use Rattle.circuit.specs.Order.{InOrder}
use Rattle.lane_cells.specs.Lane.{level_in, lane, row_in}
use Rattle.lane_cells.proofs.Lane.{level_small}
use Rattle.lane_cells.proofs.Blocks.{lane_not, bits_of_at}
use Rattle.lane_settle.specs.Block.{rest_in, net_in, Spelled}
use Rattle.lane_settle.proofs.Settling.{rest_settled}

-- the rails of the first i inputs are written, and what stands behind them is as at the start
pub record RailsTo (b : ℕ) (start row : List ℕ) (i : ℕ) : Type 0 where
  pub same_long : length row ≡ length start
  pub rail0 : (j k : ℕ) → j < 64 → k < i → row_in j row (2 * k) ≡ not (lane k (64 * b + j))
  pub rail1 : (j k : ℕ) → j < 64 → k < i → row_in j row (2 * k + 1) ≡ lane k (64 * b + j)
  pub behind : (p : ℕ) → 2 * i ≤ p → get_or row p 0 ≡ get_or start p 0

module _ (b : ℕ) (start : List ℕ) where
  pub rails_start : RailsTo b start start 0
  rails_start = record { same_long = refl; rail0 = λ j k d h. absurd (omega arith); rail1 = λ j k d h. absurd (omega arith); behind = λ p h. refl }

  pub rails_turn : (row : List ℕ) (i : ℕ) → RailsTo b start row i → 2 * i + 1 < length row → (x : ℕ) → ((j : ℕ) → j < 64 → level_in j x ≡ level_in i (64 * b + j))
      → RailsTo b start (set (set row (2 * i) (bit_xor x 0xFFFF_FFFF_FFFF_FFFF)) (2 * i + 1) x) (i + 1)
  rails_turn row i s room x is = record {
    same_long = length-set row₁ (2 * i + 1) x ∙ length-set row (2 * i) y ∙ s.same_long;
    rail0 = λ j k d h. zero_rail j k d h (ℕ_discrete k i);
    rail1 = λ j k d h. one_rail j k d h (ℕ_discrete k i);
    behind = λ p h. other p (λ e. omega arith) (λ e. omega arith) ∙ s.behind p (omega arith);
  }
    where
      y : ℕ
      y = bit_xor x 0xFFFF_FFFF_FFFF_FFFF

      row₁ : List ℕ
      row₁ = set row (2 * i) y

      level : (j : ℕ) → j < 64 → lane j x ≡ lane i (64 * b + j)
      level j d = ap (λ (n : ℕ). eqb n 1) (is j d)

      other : (p : ℕ) → (p ≡ 2 * i → ⊥) → (p ≡ 2 * i + 1 → ⊥) → get_or (set row₁ (2 * i + 1) x) p 0 ≡ get_or row p 0
      other p m n = get_or-set_other row₁ (2 * i + 1) p x 0 n ∙ get_or-set_other row (2 * i) p y 0 m

      zero_rail : (j k : ℕ) → j < 64 → k < i + 1 → Dec (k ≡ i) → row_in j (set row₁ (2 * i + 1) x) (2 * k) ≡ not (lane k (64 * b + j))
      zero_rail j k d h (yes e) =
          rw e (ap (lane j) (get_or-set_other row₁ (2 * i + 1) (2 * i) x 0 (λ q. omega arith) ∙ get_or-set_same row (2 * i) y 0 (omega arith)) ∙ lane_not j x d ∙ ap not (level j d))
      zero_rail j k d h (no n) = ap (lane j) (other (2 * k) (λ q. n (omega arith)) (λ q. omega arith)) ∙ s.rail0 j k d (omega arith)

      one_rail : (j k : ℕ) → j < 64 → k < i + 1 → Dec (k ≡ i) → row_in j (set row₁ (2 * i + 1) x) (2 * k + 1) ≡ lane k (64 * b + j)
      one_rail j k d h (yes e) = rw e (ap (lane j) (get_or-set_same row₁ (2 * i + 1) x 0 (omega (arith, length-set row (2 * i) y))) ∙ level j d)
      one_rail j k d h (no n) = ap (lane j) (other (2 * k + 1) (λ q. omega arith) (λ q. n (omega arith))) ∙ s.rail1 j k d (omega arith)

-- ---- in the end

level_high : (x : ℕ) → x ≤ 1 → eqb x 1 ≡ ltb 0 x
level_high zero h = refl
level_high (suc zero) h = refl
level_high (suc (suc x)) h = absurd (omega arith)

module _ (c : Counts) (code : List ℕ) (ordered : InOrder c code) (b : ℕ) (start row : List ℕ) (s : RailsTo b start row c.inputs) where
  rail-is : (j i : ℕ) (a : Bool) → j < 64 → i < c.inputs → row_in j row (input_rail i a) ≡ rest_in c code b j (input_rail i a)
  rail-is j i a d h = written a ∙ sym (rest a)
    where
      w : ℕ
      w = 64 * b + j

      bit : lane i w ≡ high (bits_of c.inputs w) i
      bit = level_high (level_in i w) (level_small i w) ∙ ap (λ (x : ℕ). ltb 0 x) (sym (bits_of_at c.inputs w i h))

      rail : (p : ℕ) → p < 2 * c.inputs → rest_in c code b j p ≡ word_rails (high (bits_of c.inputs w)) p
      rail p l =
          settled_rail (net_in c code) (rails_for (stage_in c code) w) (rest_row (stage_in c code) w) (rest_settled c code ordered w) p l
          ∙ rails_word (bits_of c.inputs w) (bits_of_bit c.inputs w) p (omega (arith, bits_of_length c.inputs w))

      wanted : Bool → Bool
      wanted false = not (lane i w)
      wanted true = lane i w

      written : (a : Bool) → row_in j row (input_rail i a) ≡ wanted a
      written false = s.rail0 j i d h
      written true = s.rail1 j i d h

      rest : (a : Bool) → rest_in c code b j (input_rail i a) ≡ wanted a
      rest false = rail (2 * i) (omega arith) ∙ word_rails_0 (high (bits_of c.inputs w)) i ∙ ap not (sym bit)
      rest true = rail (2 * i + 1) (omega arith) ∙ word_rails_1 (high (bits_of c.inputs w)) i ∙ sym bit

  pub rails_done : get_or start (net_count c) 0 ≡ 0 → Spelled c (rest_in c code b) row
  rails_done low = record {
    ground = s.behind (net_count c) (omega arith) ∙ low;
    rails = λ j p d h. let r = rail_of_input p in rw r.1 (rail-is j (p / 2) r.0 d (omega arith));
  }
