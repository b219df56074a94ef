-- The level of a gate by the fall rule, in the flat form; and the gates that are still to be evaluated have the rest's levels.
-- Assumes nothing.
use Prim.Native.Nat.{ℕ, zero, suc, ◌+◌, ◌*◌, ◌≤◌, ◌<◌}
use native.Mathlib.Omega.{arith}
use mathlib.Core.Path.{◌≡◌, refl, sym, ap, subst, ◌∙◌}
use mathlib.Core.Bool.{Bool, true, false, ◌&&◌, ◌||◌}
use mathlib.Core.List.{List, [], ◌∷◌}
use lib.ListN.{length, get_or, set, take, drop}
use lib.Seq.{get_or-take, get_or-drop, get_or-set_other}
use lib.Dec.{eqb, ltb}
use borrow.Author.Tests.{eq-eqb, ne_eqb, lt-ltb, le-ltb}
use Rattle.gates.specs.Expression.{holds}
use Rattle.gates.specs.Cell.{set_expression, pin_count, bit}
use Rattle.runs.specs.Row.{only}
use Rattle.netlist.specs.declared.Counts.{Counts}
use Rattle.verdict.specs.Rows.{high, pin_high, is_set}
use Rattle.verdict.specs.Graph.{any_high}
use Rattle.verdict.specs.Nets.{no_gate}
use Rattle.verdict.specs.Falls.{stays, level_falling}
use Rattle.verdict.proofs.Falls.{falling_local}
use Rattle.circuit.specs.Stage.{cell_in, pin_in, gate_in, gate_at_place, stage_gates, StageLoaded}
use Rattle.circuit.specs.Order.{InOrder}
use Rattle.circuit.specs.Rows.{RowFor, nets_in, level_part, pattern_in}
use Rattle.circuit.specs.Form.{GateAt}
use Rattle.circuit.proofs.Tabulate.{get_d_tabulate}
use Rattle.circuit.proofs.Pins.{nets_at}
use Rattle.circuit.proofs.Settling.{SettlingTo, order_at, length_stage_gates, settling_turn}

-- ---- some pin is high

-- nets of which those past the first m are low
any_take : (row l : List ℕ) (m : ℕ) → ((i : ℕ) → m ≤ i → i < length l → high row (get_or l i 0) ≡ false) → any_high row (take m l) ≡ any_high row l
any_take row [] zero low = refl
any_take row [] (suc m) low = refl
any_take row (p ∷ l) zero low = sym (rw (low 0 (omega arith) (omega arith)) (sym (any_take row l zero (λ i a b. low (suc i) (omega arith) (omega arith)))))
any_take row (p ∷ l) (suc m) low = ap (λ (b : Bool). high row p || b) (any_take row l m (λ i a b. low (suc i) (omega arith) (omega arith)))

any_four : (x y z w : ℕ) → (ltb 0 x || (ltb 0 y || (ltb 0 z || (ltb 0 w || false)))) ≡ ltb 0 (x + 2 * y + 4 * z + 8 * w)
any_four (suc x) y z w = rw (lt-ltb 0 (suc x) (omega arith)) (sym (lt-ltb 0 (suc x + 2 * y + 4 * z + 8 * w) (omega arith)))
any_four zero (suc y) z w = rw (lt-ltb 0 (suc y) (omega arith)) (sym (lt-ltb 0 (0 + 2 * suc y + 4 * z + 8 * w) (omega arith)))
any_four zero zero (suc z) w = rw (lt-ltb 0 (suc z) (omega arith)) (sym (lt-ltb 0 (0 + 2 * 0 + 4 * suc z + 8 * w) (omega arith)))
any_four zero zero zero (suc w) = rw (lt-ltb 0 (suc w) (omega arith)) (sym (lt-ltb 0 (0 + 2 * 0 + 4 * 0 + 8 * suc w) (omega arith)))
any_four zero zero zero zero = refl

-- ---- gate k of a row whose levels are the rest's

module _ (c : Counts) (code row : List ℕ) (loaded : StageLoaded c code) (r : RowFor c row) (k : ℕ) (h : k < c.gates) (kept : ℕ) where
  abbrev nets : List ℕ
  nets = nets_in c row

  abbrev falling : ℕ
  falling = level_falling (only kept) (stage_gates c code) (level_part c row) nets k

  pub level_at : get_or (level_part c row) k 0 ≡ get_or row (2 * c.inputs + k) 0
  level_at = get_or-take c.gates (drop (2 * c.inputs) row) k 0 h ∙ get_or-drop (2 * c.inputs) row k 0

  absent_low : (i : ℕ) → pin_count (cell_in code k) ≤ i → i < 4 → high nets (pin_in code k i) ≡ false
  absent_low i a b =
      ap (λ (x : ℕ). ltb 0 x)
      (nets_at c row r (pin_in code k i) ((loaded.gate k h).pin i b) ∙ ap (λ (p : ℕ). get_or row p 0) ((loaded.gate k h).absent i a b) ∙ r.ground)

  any_pattern : any_high nets (gate_in code k).pins ≡ ltb 0 (pattern_in nets code k)
  any_pattern =
      any_take nets (pin_in code k 0 ∷ pin_in code k 1 ∷ pin_in code k 2 ∷ pin_in code k 3 ∷ []) (pin_count (cell_in code k)) low
      ∙ any_four (get_or nets (pin_in code k 0) 0) (get_or nets (pin_in code k 1) 0) (get_or nets (pin_in code k 2) 0) (get_or nets (pin_in code k 3) 0)
    where
      low : (i : ℕ) → pin_count (cell_in code k) ≤ i → i < 4 → high nets (get_or (pin_in code k 0 ∷ pin_in code k 1 ∷ pin_in code k 2 ∷ pin_in code k 3 ∷ []) i 0) ≡ false
      low zero a b = absent_low 0 a b
      low (suc zero) a b = absent_low 1 a b
      low (suc (suc zero)) a b = absent_low 2 a b
      low (suc (suc (suc zero))) a b = absent_low 3 a b
      low (suc (suc (suc (suc i)))) a b = absurd (omega arith)

  -- by what the rest's level and the two tests are
  by_tests : (a b d : Bool) → ltb 0 (get_or row (2 * c.inputs + k) 0) ≡ a → eqb k kept ≡ b → stays nets (gate_in code k) ≡ d → falling ≡ bit (a && (b || d))
  unfolding stage_gates
  by_tests a b d ea eb ed =
      rw (level_at, ea, eb, get_d_tabulate (gate_in code) c.gates k no_gate h, ed)

  pub fall_low : get_or row (2 * c.inputs + k) 0 ≡ 0 → 0 ≡ falling
  fall_low e = sym (by_tests false (eqb k kept) (stays nets (gate_in code k)) (le-ltb 0 (get_or row (2 * c.inputs + k) 0) (omega arith)) refl refl)

  module _ (n : get_or row (2 * c.inputs + k) 0 ≡ 0 → ⊥) where
    is_high : ltb 0 (get_or row (2 * c.inputs + k) 0) ≡ true
    is_high = lt-ltb 0 (get_or row (2 * c.inputs + k) 0) (omega (arith, n))

    pub fall_kept : k ≡ kept → 1 ≡ falling
    fall_kept e = sym (by_tests true true (stays nets (gate_in code k)) is_high (eq-eqb k kept e) refl)

    module _ (other : k ≡ kept → ⊥) where
      by_stays : (d : Bool) → stays nets (gate_in code k) ≡ d → bit d ≡ falling
      by_stays d e = sym (by_tests true false d is_high (ne_eqb k kept other) e)

      -- with hold: by the pattern of its pins
      hold_stays : (gate_in code k).hold ≡ true → stays nets (gate_in code k) ≡ ltb 0 (pattern_in nets code k)
      unfolding stays
      hold_stays e = rw e any_pattern

      pub fall_hold_low : (gate_in code k).hold ≡ true → (x : ℕ) → x ≡ pattern_in nets code k → x ≡ 0 → 0 ≡ falling
      fall_hold_low e x p z = by_stays false (hold_stays e ∙ le-ltb 0 (pattern_in nets code k) (omega arith))

      pub fall_hold_high : (gate_in code k).hold ≡ true → (x : ℕ) → x ≡ pattern_in nets code k → (x ≡ 0 → ⊥) → 1 ≡ falling
      fall_hold_high e x p z = by_stays true (hold_stays e ∙ lt-ltb 0 (pattern_in nets code k) (omega (arith, p, z)))

      -- without: by its set expression
      pub fall_relaxed : (gate_in code k).hold ≡ false → (x : ℕ) → x ≡ is_set nets (gate_in code k) → x ≡ falling
      unfolding stays is_set
      fall_relaxed d x e = e ∙ by_stays (holds (set_expression (cell_in code k)) (pin_high nets (gate_in code k))) (rw d)

-- ---- all gates

-- the gates at the first i places have their levels, and the others the rest's
pub record FallingTo (c : Counts) (code : List ℕ) (kept : ℕ) (start row : List ℕ) (i : ℕ) : Type 0 where
  pub settling : SettlingTo c code (level_falling (only kept) (stage_gates c code) (level_part c start)) start row i
  pub rest : (j : ℕ) → i ≤ j → j < c.gates → get_or row (2 * c.inputs + gate_at_place code j) 0 ≡ get_or start (2 * c.inputs + gate_at_place code j) 0

module _ (c : Counts) (code : List ℕ) (ordered : InOrder c code) (kept : ℕ) (start row : List ℕ) (i : ℕ) (f : FallingTo c code kept start row i) (h : i < c.gates) (k : ℕ) (at : GateAt c code i k) where
  -- the level by the row's own levels is the level by the rest's
  rest_alike : (u : List ℕ) → level_falling (only kept) (stage_gates c code) (level_part c row) u k ≡ level_falling (only kept) (stage_gates c code) (level_part c start) u k
  rest_alike u =
      ap (λ (x : ℕ). bit (ltb 0 x && (only kept k || stays u (get_or (stage_gates c code) k no_gate))))
      (part row ∙ subst (λ (g : ℕ). get_or row (2 * c.inputs + g) 0 ≡ get_or start (2 * c.inputs + g) 0) (sym at.is) (f.rest i (omega arith) h) ∙ sym (part start))
    where
      part : (l : List ℕ) → get_or (level_part c l) k 0 ≡ get_or l (2 * c.inputs + k) 0
      part l = get_or-take c.gates (drop (2 * c.inputs) l) k 0 at.there ∙ get_or-drop (2 * c.inputs) l k 0

  pub falling_turn : (x : ℕ) → x ≡ level_falling (only kept) (stage_gates c code) (level_part c row) (nets_in c row) k → x ≤ 1 → FallingTo c code kept start (set row (2 * c.inputs + k) x) (i + 1)
  falling_turn x e l = record {
    settling =
        settling_turn c code ordered _ (falling_local (only kept) (stage_gates c code) (level_part c start)) start row i f.settling h k at x (e ∙ rest_alike (nets_in c row)) l;
    rest = λ j a b. get_or-set_other row (2 * c.inputs + k) (2 * c.inputs + gate_at_place code j) x 0 (λ q. omega (arith, once j b (omega arith))) ∙ f.rest j (omega arith) b;
  }
    where
      once : (j : ℕ) → j < c.gates → gate_at_place code j ≡ k → j ≡ i
      once j b q =
          ordered.ordered.once j i (omega (arith, length_stage_gates c code)) (omega (arith, length_stage_gates c code)) (order_at c code j b ∙ q ∙ at.is ∙ sym (order_at c code i h))
