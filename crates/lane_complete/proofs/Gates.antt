-- One gate in 64 words: where it may rise, and where it may not fall.
-- Assumes nothing.
use Prim.Native.Nat.{ℕ, zero, suc, ◌+◌, ◌*◌, ◌≤◌, ◌<◌}
use native.Mathlib.Omega.{arith}
use mathlib.Core.Path.{◌≡◌, refl, sym, ap, ap₂, ◌∙◌}
use mathlib.Core.Bool.{Bool, true, false, cond, not, ◌&&◌, ◌||◌}
use mathlib.Core.List.{List, [], ◌∷◌}
use lib.ListN.{length, get_or, take}
use lib.Bits.{bit_or}
use Rattle.gates.specs.Cell.{pin_count}
use Rattle.runs.specs.Row.{Row}
use Rattle.runs.specs.Net.{all_low, may_fall}
use Rattle.netlist.specs.declared.Counts.{Counts}
use Rattle.netlist.specs.Content.{Gate}
use Rattle.verdict.specs.Nets.{set_in}
use Rattle.circuit.specs.Stage.{cell_in, pin_in, gate_in, StageLoaded}
use Rattle.lane_cells.specs.Lane.{lane}
use Rattle.lane_cells.proofs.Lane.{lane_or}
use Rattle.lane_settle.specs.declared.PinLanes.{PinLanes}
use Rattle.lane_settle.specs.Block.{net_in, pin_lanes, gate_lanes}
use Rattle.lane_settle.proofs.Pins.{driver_at}
use Rattle.lane_settle.proofs.Settling.{pin_absent, set_lane}
use Rattle.lane_complete.specs.Rows.{MayRise, MayNotFall}

-- nets of which those past the first m are low
low_take : (R : Row) (l : List ℕ) (m : ℕ) → ((i : ℕ) → m ≤ i → i < length l → R (get_or l i 0) ≡ false) → all_low R (take m l) ≡ all_low R l
low_take R [] zero low = refl
low_take R [] (suc m) low = refl
low_take R (p ∷ l) zero low = sym (rw (low 0 (omega arith) (omega arith)) (sym (low_take R l zero (λ i a b. low (suc i) (omega arith) (omega arith)))))
low_take R (p ∷ l) (suc m) low = ap (λ (b : Bool). not (R p) && b) (low_take R l m (λ i a b. low (suc i) (omega arith) (omega arith)))

some-high : (a b c d : Bool) → (((a || b) || c) || d) ≡ not (not a && (not b && (not c && (not d && true))))
some-high true b c d = refl
some-high false true c d = refl
some-high false false true d = refl
some-high false false false true = refl
some-high false false false false = refl

module _ (c : Counts) (code : List ℕ) (loaded : StageLoaded c code) (k : ℕ) (h : k < c.gates) (row : List ℕ) where
  pub may_rise_holds : (r : ℕ) → r ≡ (gate_lanes code k row).set → MayRise c code k row r
  may_rise_holds r is j R like = ap (lane j) is ∙ set_lane c code loaded k h R like.past row j like.pins ∙ ap (set_in R) (sym (driver_at c code k h))

  by_hold : (R : Row) (x : Bool) → (gate_in code k).hold ≡ x
      → may_fall (net_in c code) R (2 * c.inputs + k) ≡ cond x (all_low R (gate_in code k).pins) (not (set_in R (gate_in code k)))
  by_hold R x e =
      ap (λ (y : Gate). cond y.hold (all_low R y.pins) (not (set_in R y))) (driver_at c code k h)
      ∙ ap (λ (y : Bool). cond y (all_low R (gate_in code k).pins) (not (set_in R (gate_in code k)))) e

  -- relaxed it stays while it is set
  pub relaxed_stays : (gate_in code k).hold ≡ false → (r : ℕ) → MayRise c code k row r → MayNotFall c code k row r
  relaxed_stays e r rises j R like = rises j R like ∙ ap (set_in R) (driver_at c code k h) ∙ sym (ap not (by_hold R false e) ∙ twice (set_in R (gate_in code k)))
    where
      twice : (b : Bool) → not (not b) ≡ b
      twice true = refl
      twice false = refl

  -- with hold it stays while some pin is high
  pub hold_stays : (gate_in code k).hold ≡ true → (at : PinLanes) → at ≡ pin_lanes code k row → MayNotFall c code k row (bit_or (bit_or (bit_or at.a at.b) at.c) at.d)
  hold_stays e at is j R like = rw is (any ∙ some-high (R (p 0)) (R (p 1)) (R (p 2)) (R (p 3)) ∙ ap not (sym (by_hold R true e ∙ all_low_holds)))
    where
      p : ℕ → ℕ
      p = pin_in code k

      x : ℕ → ℕ
      x t = get_or row (p t) 0

      any : lane j (bit_or (bit_or (bit_or (x 0) (x 1)) (x 2)) (x 3)) ≡ (((R (p 0) || R (p 1)) || R (p 2)) || R (p 3))
      any =
          lane_or j (bit_or (bit_or (x 0) (x 1)) (x 2)) (x 3)
          ∙ ap₂ (λ (a b : Bool). a || b) (lane_or j (bit_or (x 0) (x 1)) (x 2)
          ∙ ap₂ (λ (a b : Bool). a || b) (lane_or j (x 0) (x 1) ∙ ap₂ (λ (a b : Bool). a || b) (like.pins 0 (omega arith)) (like.pins 1 (omega arith))) (like.pins 2 (omega arith)))
          (like.pins 3 (omega arith))

      all_low_holds : all_low R (gate_in code k).pins ≡ (not (R (p 0)) && (not (R (p 1)) && (not (R (p 2)) && (not (R (p 3)) && true))))
      all_low_holds = low_take R (p 0 ∷ p 1 ∷ p 2 ∷ p 3 ∷ []) (pin_count (cell_in code k)) absent
        where
          low : (t : ℕ) → t < 4 → pin_count (cell_in code k) ≤ t → R (p t) ≡ false
          low t l a = pin_absent c code loaded k h R like.past row j like.pins t l a

          absent : (i : ℕ) → pin_count (cell_in code k) ≤ i → i < 4 → R (get_or (p 0 ∷ p 1 ∷ p 2 ∷ p 3 ∷ []) i 0) ≡ false
          absent zero a b = low 0 b a
          absent (suc zero) a b = low 1 b a
          absent (suc (suc zero)) a b = low 2 b a
          absent (suc (suc (suc zero))) a b = low 3 b a
          absent (suc (suc (suc (suc i)))) a b = absurd (omega arith)
