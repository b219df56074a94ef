-- The computed rows of the way back to NULL are settled by the fall rule as the paper words it.
-- Assumes nothing.
use Prim.Native.Nat.{ℕ, ◌+◌, ◌-◌, ◌*◌, ◌/◌, ◌<◌}
use native.Mathlib.Omega.{arith}
use mathlib.Core.Path.{◌≡◌, refl, sym, ap, ap₂, ◌∙◌}
use mathlib.Core.Bool.{Bool, true, false, cond, not, ◌&&◌, ◌||◌}
use mathlib.Core.Logic.{inl, inr}
use mathlib.Core.List.{List, [], ◌∷◌, ◌++◌}
use lib.ListN.{length, get_or}
use lib.Dec.{ltb}
use Rattle.gates.specs.Expression.{holds}
use Rattle.gates.specs.Cell.{set_expression, bit}
use Rattle.gates.proofs.Expressions.{holds_mono}
use Rattle.runs.specs.Row.{Row}
use Rattle.runs.specs.Net.{IsGate, all_low, may_fall}
use Rattle.runs.specs.Settled.{SettledKept}
use Rattle.runs.proofs.Test.{or_mono, and_in, and_left, and_right}
use Rattle.runs.proofs.Fall.{kept_by}
use Rattle.netlist.specs.Content.{Gate, Stage}
use Rattle.verdict.specs.Rows.{high, with_null, pin_high, settled_levels}
use Rattle.verdict.specs.Levels.{Bits, Below}
use Rattle.verdict.specs.Graph.{any_high, tabulate}
use Rattle.verdict.specs.Loops.{In, LoopFree}
use Rattle.verdict.specs.Words.{rails_in}
use Rattle.verdict.specs.Nets.{no_gate, driver, set_in, net_of, row_of, rest_row}
use Rattle.verdict.specs.Falls.{stays, level_falling, fallen_levels, fallen}
use Rattle.verdict.proofs.Levels.{below_refl, below-++, below_get, high_mono, bits_length}
use Rattle.verdict.proofs.Rounds.{rounds_bits, rounds_fixed}
use Rattle.verdict.proofs.Graph.{any_high_in, any_high_out, get_d_tabulate, bits_tabulate, below_tabulate}
use Rattle.verdict.proofs.Gates.{pins_mono, map_local, pins_at_holds}
use Rattle.verdict.proofs.Fixed.{Local, Fixed, fixed_one}
use Rattle.verdict.proofs.Settling.{settled_bits}
use Rattle.verdict.proofs.Words.{null_length, null_high}
use Rattle.verdict.proofs.Bridge.{high_bit, rail_high, gate_high, past_low}

-- ---- a gate that stays high

any_mono : (u v : List ℕ) → Below u v → (pins : List ℕ) → any_high u pins ≡ true → any_high v pins ≡ true
any_mono u v h pins e = let r = any_high_out u pins e in any_high_in v pins r.0 r.1 (high_mono u v (below_get u v h) r.0 r.2)

any_low : (row pins : List ℕ) → any_high row pins ≡ not (all_low (row_of row) pins)
any_low row [] = refl
any_low row (p ∷ pins) = go (high row p) (any_low row pins)
  where
    go : (b : Bool) → any_high row pins ≡ not (all_low (row_of row) pins) → (b || any_high row pins) ≡ not (not b && all_low (row_of row) pins)
    go true e = refl
    go false e = e

-- by the gate rule: it may not fall
pub stays_rule : (s : Stage) (row : List ℕ) (k : ℕ) → stays row (driver s k) ≡ not (may_fall (net_of s) (row_of row) k)
unfolding stays
stays_rule s row k = go (driver s k).hold
  where
    twice : (b : Bool) → b ≡ not (not b)
    twice true = refl
    twice false = refl

    go : (b : Bool) → cond b (any_high row (driver s k).pins) (holds (set_expression (driver s k).cell) (pin_high row (driver s k)))
        ≡ not (cond b (all_low (row_of row) (driver s k).pins) (not (set_in (row_of row) (driver s k))))
    go true = any_low row (driver s k).pins
    go false = twice (set_in (row_of row) (driver s k))

stays-mono : (u v : List ℕ) → Below u v → (g : Gate) → stays u g ≡ true → stays v g ≡ true
unfolding stays
stays-mono u v h g e = go g.hold e
  where
    go : (b : Bool) → cond b (any_high u g.pins) (holds (set_expression g.cell) (pin_high u g)) ≡ true
        → cond b (any_high v g.pins) (holds (set_expression g.cell) (pin_high v g)) ≡ true
    go true e = any_mono u v h g.pins e
    go false e = holds_mono (set_expression g.cell) (pin_high u g) (pin_high v g) (pins_mono u v h g.pins) e

-- ---- the levels

module _ (kept : ℕ → Bool) (gates : List Gate) (rest rails : List ℕ) where
  abbrev high_in_holds : List ℕ → ℕ → Bool
  high_in_holds levels g = high rest g && (kept g || stays (rails ++ levels) (get_or gates g no_gate))

  abbrev step : List ℕ → List ℕ
  step levels = tabulate (λ g. bit (high_in_holds levels g)) (length gates)

  step_rises : (u v : List ℕ) → Below u v → Below (step u) (step v)
  step_rises u v h =
      below_tabulate (high_in_holds u) (high_in_holds v)
      (λ g e. and_in (high rest g) _ (and_left (high rest g) _ e)
      (or_mono (kept g) (stays (rails ++ u) (get_or gates g no_gate)) (stays (rails ++ v) (get_or gates g no_gate))
      (stays-mono (rails ++ u) (rails ++ v) (below-++ rails rails u v (below_refl rails) h) (get_or gates g no_gate)) (and_right (high rest g) _ e)))
      (length gates)

  pub fallen_bits : Bits (length gates) (fallen_levels kept gates rest rails)
  unfolding fallen_levels
  fallen_bits = rounds_bits step (length gates) (λ v b. bits_tabulate (high_in_holds v) (length gates)) step_rises (length gates)

  fallen-fixed : step (fallen_levels kept gates rest rails) ≡ fallen_levels kept gates rest rails
  unfolding fallen_levels
  fallen-fixed = rounds_fixed step (length gates) (λ v b. bits_tabulate (high_in_holds v) (length gates)) step_rises

  fallen-at : (g : ℕ) → g < length gates → high (fallen_levels kept gates rest rails) g ≡ high_in_holds (fallen_levels kept gates rest rails) g
  fallen-at g h =
      ap (λ (l : List ℕ). high l g) (sym fallen-fixed)
      ∙ ap (λ (x : ℕ). ltb 0 x) (get_d_tabulate (λ k. bit (high_in_holds (fallen_levels kept gates rest rails) k)) (length gates) g 0 h)
      ∙ high_bit (high_in_holds (fallen_levels kept gates rest rails) g)

-- ---- one row

stays-local : (u v : List ℕ) (g : Gate) → ((p : ℕ) → In p g.pins → high u p ≡ high v p) → stays u g ≡ stays v g
unfolding stays
stays-local u v g same =
    ap₂ (λ (a b : Bool). cond g.hold a b) (any g.pins same)
    (ap (λ (l : List Bool). holds (set_expression g.cell) (λ i. get_or l i false)) (map_local u v g.pins same))
  where
    any : (pins : List ℕ) → ((p : ℕ) → In p pins → high u p ≡ high v p) → any_high u pins ≡ any_high v pins
    any [] h = refl
    any (p ∷ pins) h = ap₂ ◌||◌ (h p (inl refl)) (any pins (λ q i. h q (inr i)))

module _ (kept : ℕ → Bool) (gates : List Gate) (rest : List ℕ) where
  pub falling_local : Local gates (level_falling kept gates rest)
  falling_local u v k l same =
      ap (λ (b : Bool). bit (high rest k && (kept k || b))) (stays-local u v (get_or gates k no_gate) (rw pins_at_holds at same))

  -- a stage without loops has exactly one row that is settled by the fall rule: the computed one
  pub falling_one : (n : ℕ) → LoopFree n gates → (rails : List ℕ) → length rails ≡ 2 * n → (v : List ℕ) → Fixed gates (level_falling kept gates rest) rails v
      → v ≡ fallen_levels kept gates rest rails
  falling_one n free rails both v f = fixed_one n free falling_local both f (record {
    long = bits_length (length gates) (fallen_levels kept gates rest rails) (fallen_bits kept gates rest rails);
    at = λ k h. ap (λ (l : List ℕ). get_or l k 0) (sym (fallen-fixed kept gates rest rails)) ∙ get_d_tabulate (level_falling kept gates rest (rails ++ fallen_levels kept gates rest rails)) (length gates) k 0 h;
  })

-- ---- the rows of a word

module _ (s : Stage) (w : ℕ) (long : length (rails_in s w) ≡ 2 * s.inputs) (missing kept : ℕ → Bool) (X : Row)
    (rail : (k : ℕ) → k < 2 * s.inputs → X k ≡ not (missing (k / 2))) (gate : (g : ℕ) → X (2 * s.inputs + g) ≡ kept g) where
  abbrev left : List ℕ
  left = with_null missing (rails_in s w)

  abbrev levels : List ℕ
  levels = fallen_levels kept s.gates (settled_levels s.gates (rails_in s w)) left

  abbrev row : List ℕ
  row = left ++ levels

  left_long : length left ≡ 2 * s.inputs
  left_long = null_length missing s.inputs (rails_in s w) long

  pub fallen_settled : SettledKept (net_of s) X (rest_row s w) (row_of (fallen s w missing kept))
  unfolding fallen
  fallen_settled = kept_by (net_of s) X (rest_row s w) (row_of row)
      (λ k h. rail_high s left left_long levels k h ∙ null_high missing s.inputs (rails_in s w) long k
      ∙ ap₂ ◌&&◌ (sym (rail_high s (rails_in s w) long (settled_levels s.gates (rails_in s w)) k h)) (sym (rail k h)))
      (λ k is. at k is)
      (λ k h. past_low s left left_long levels (bits_length (length s.gates) levels (fallen_bits kept s.gates (settled_levels s.gates (rails_in s w)) left)) k h
      ∙ sym (past_low s (rails_in s w) long (settled_levels s.gates (rails_in s w)) (bits_length (length s.gates) _ (settled_bits s.gates (rails_in s w))) k h))
    where
      at : (k : ℕ) → IsGate (net_of s) k → row_of row k ≡ (rest_row s w k && (X k || not (may_fall (net_of s) (row_of row) k)))
      at k is =
          let g = k - 2 * s.inputs in
          let e : k ≡ 2 * s.inputs + g = omega (arith, is.0) in
          gate_high s left left_long levels k is.0
          ∙ fallen-at kept s.gates (settled_levels s.gates (rails_in s w)) left g (omega (arith, is.0, is.1))
          ∙ ap₂ ◌&&◌ (sym (gate_high s (rails_in s w) long (settled_levels s.gates (rails_in s w)) k is.0)) (ap₂ ◌||◌ (sym (gate g) ∙ ap X (sym e)) (stays_rule s row k))
