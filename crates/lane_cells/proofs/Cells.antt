-- What a cell gives in 64 words agrees with its set expression in each of them.
-- Assumes nothing.
use Prim.Native.Nat.{ℕ, zero, suc, ◌<◌}
use native.Mathlib.Omega.{arith}
use mathlib.Core.Path.{◌≡◌, refl, sym, ap₂, ◌∙◌}
use mathlib.Core.Bool.{Bool, true, false, cond, not, ◌&&◌, ◌||◌}
use lib.Dec.{eqb, ltb}
use lib.Bits.{bit_xor}
use Rattle.gates.specs.Expression.{Expression, A, B, C, D, ◌·◌, ◌∔◌, holds}
use Rattle.gates.specs.Cell.{pin_count, set_expression}
use Rattle.gates.proofs.Expressions.{holds_mono}
use Rattle.runs.specs.Row.{◌∖◌, only}
use Rattle.runs.proofs.Test.{clash, and_left, ltb-true}
use Rattle.lane_cells.specs.declared.CellLanes.{CellLanes}
use Rattle.lane_cells.specs.Lane.{lane}
use Rattle.lane_cells.specs.Cells.{pins_in, lanes_of, Lowered, never, still, pin_low, both_low, either_low, lowered, lowered_lanes, needing, need_of, needs_pin, cell_lanes}
use Rattle.lane_cells.proofs.Lane.{lane_zero, lane_and, lane_or, unlike, lane_xor}

lanes_hold : (e : Expression) (j a b c d : ℕ) → lane j (lanes_of e a b c d) ≡ holds e (pins_in j a b c d)
lanes_hold A j a b c d = refl
lanes_hold B j a b c d = refl
lanes_hold C j a b c d = refl
lanes_hold D j a b c d = refl
lanes_hold (e · f) j a b c d = lane_and j (lanes_of e a b c d) (lanes_of f a b c d) ∙ ap₂ (λ x y. x && y) (lanes_hold e j a b c d) (lanes_hold f j a b c d)
lanes_hold (e ∔ f) j a b c d = lane_or j (lanes_of e a b c d) (lanes_of f a b c d) ∙ ap₂ (λ x y. x || y) (lanes_hold e j a b c d) (lanes_hold f j a b c d)

-- ---- a pin low

and-false : (x : Bool) → (x && false) ≡ false
and-false true = refl
and-false false = refl

and-true : (x : Bool) → (x && true) ≡ x
and-true true = refl
and-true false = refl

or-false : (x : Bool) → (x || false) ≡ x
or-false true = refl
or-false false = refl

abbrev lowered_holds : Lowered → (ℕ → Bool) → Bool
lowered_holds never p = false
lowered_holds (still e) p = holds e p

low_pin : (b : Bool) (e : Expression) (p : ℕ → Bool) → lowered_holds (pin_low b e) p ≡ (holds e p && not b)
low_pin true e p = sym (and-false (holds e p))
low_pin false e p = sym (and-true (holds e p))

low_both : (l m : Lowered) (p : ℕ → Bool) → lowered_holds (both_low l m) p ≡ (lowered_holds l p && lowered_holds m p)
low_both never m p = refl
low_both (still e) never p = sym (and-false (holds e p))
low_both (still e) (still f) p = refl

low_either : (l m : Lowered) (p : ℕ → Bool) → lowered_holds (either_low l m) p ≡ (lowered_holds l p || lowered_holds m p)
low_either never m p = refl
low_either (still e) never p = sym (or-false (holds e p))
low_either (still e) (still f) p = refl

lowered-holds : (i : ℕ) (e : Expression) (p : ℕ → Bool) → lowered_holds (lowered i e) p ≡ holds e (p ∖ only i)
lowered-holds i A p = low_pin (eqb 0 i) A p
lowered-holds i B p = low_pin (eqb 1 i) B p
lowered-holds i C p = low_pin (eqb 2 i) C p
lowered-holds i D p = low_pin (eqb 3 i) D p
lowered-holds i (e · f) p = low_both (lowered i e) (lowered i f) p ∙ ap₂ (λ x y. x && y) (lowered-holds i e p) (lowered-holds i f p)
lowered-holds i (e ∔ f) p = low_either (lowered i e) (lowered i f) p ∙ ap₂ (λ x y. x || y) (lowered-holds i e p) (lowered-holds i f p)

lowered-lanes : (l : Lowered) (j a b c d : ℕ) → lane j (lowered_lanes l a b c d) ≡ lowered_holds l (pins_in j a b c d)
lowered-lanes never j a b c d = lane_zero j
lowered-lanes (still e) j a b c d = lanes_hold e j a b c d

-- ---- a pin that is needed

-- in a word where the cell needs pin i, its expression holds, and does not with that pin low
pub record Needs (cell i : ℕ) (pins : ℕ → Bool) : Type 0 where
  pub has : i < pin_count cell
  pub set : holds (set_expression cell) pins ≡ true
  pub without : holds (set_expression cell) (pins ∖ only i) ≡ false

pin_needed : (cell i j a b c d : ℕ) → lane j (needs_pin cell i a b c d) ≡ true → Needs cell i (pins_in j a b c d)
pin_needed cell i j a b c d h = go (ltb i (pin_count cell)) refl h
  where
    e : Expression
    e = set_expression cell

    pins : ℕ → Bool
    pins = pins_in j a b c d

    low : Lowered
    low = lowered i e

    differs : (x y : Bool) → (y ≡ true → x ≡ true) → unlike x y ≡ true → (x ≡ true) × (y ≡ false)
    differs true true f z = absurd (clash z refl)
    differs true false f z = (refl, refl)
    differs false true f z = absurd (clash (f refl) refl)
    differs false false f z = absurd (clash z refl)

    go : (t : Bool) → ltb i (pin_count cell) ≡ t → lane j (cond t (bit_xor (lanes_of e a b c d) (lowered_lanes low a b c d)) 0) ≡ true → Needs cell i pins
    go true q z =
        let x = lane_xor j (lanes_of e a b c d) (lowered_lanes low a b c d) in
        let y = ap₂ unlike (lanes_hold e j a b c d) (lowered-lanes low j a b c d ∙ lowered-holds i e pins) in
        let both = differs (holds e pins) (holds e (pins ∖ only i)) (holds_mono e (pins ∖ only i) pins (λ k. and_left (pins k) (not (only i k)))) (sym y ∙ sym x ∙ z) in
        record { has = ltb-true i (pin_count cell) q; set = both.0; without = both.1 }
    go false q z = absurd (clash z (lane_zero j))

-- the same of the cell's four pins by number
pub need_of_holds : (cell i j a b c d : ℕ) → i < 4 → lane j (need_of (cell_lanes cell a b c d) i) ≡ true → Needs cell i (pins_in j a b c d)
unfolding cell_lanes
need_of_holds cell zero j a b c d h e = pin_needed cell 0 j a b c d e
need_of_holds cell (suc zero) j a b c d h e = pin_needed cell 1 j a b c d e
need_of_holds cell (suc (suc zero)) j a b c d h e = pin_needed cell 2 j a b c d e
need_of_holds cell (suc (suc (suc zero))) j a b c d h e = pin_needed cell 3 j a b c d e
need_of_holds cell (suc (suc (suc (suc i)))) j a b c d h e = absurd (omega arith)

-- where the cell is set
pub set_holds : (cell j a b c d : ℕ) → lane j (cell_lanes cell a b c d).set ≡ holds (set_expression cell) (pins_in j a b c d)
unfolding cell_lanes
set_holds cell j a b c d = lanes_hold (set_expression cell) j a b c d

-- ---- a pin that sets the cell alone

abbrev kept : Bool → ℕ → ℕ
kept true x = x
kept false x = 0

-- the pins of cell k that set it alone, with what is given for them
abbrev lone : ℕ → ℕ → ℕ → ℕ → ℕ → CellLanes
lone k a b c d =
    let e = set_expression k in
    needing 0 (kept (holds e (only 0)) a) (kept (holds e (only 1)) b) (kept (holds e (only 2)) c) (kept (holds e (only 3)) d)

kept_lane : (t : Bool) (j x : ℕ) → lane j (kept t x) ≡ true → (lane j x ≡ true) × (t ≡ true)
kept_lane true j x e = (e, refl)
kept_lane false j x e = absurd (clash e (lane_zero j))

pub lone_sets : (k cell a b c d : ℕ) (r : CellLanes) → cell ≡ k → r ≡ lone k a b c d → (j i : ℕ) → i < 4 → lane j (need_of r i) ≡ true
    → (pins_in j a b c d i ≡ true) × (holds (set_expression cell) (only i) ≡ true)
lone_sets k cell a b c d r same is j i h e = rw same (at i h (rw is at e))
  where
    at : (i : ℕ) → i < 4 → lane j (need_of (lone k a b c d) i) ≡ true → (pins_in j a b c d i ≡ true) × (holds (set_expression k) (only i) ≡ true)
    at zero h e = kept_lane (holds (set_expression k) (only 0)) j a e
    at (suc zero) h e = kept_lane (holds (set_expression k) (only 1)) j b e
    at (suc (suc zero)) h e = kept_lane (holds (set_expression k) (only 2)) j c e
    at (suc (suc (suc zero))) h e = kept_lane (holds (set_expression k) (only 3)) j d e
    at (suc (suc (suc (suc i)))) h e = absurd (omega arith)

pub none_lone : (r : CellLanes) → r ≡ needing 0 0 0 0 0 → (j i : ℕ) → i < 4 → lane j (need_of r i) ≡ false
none_lone r is j i h = rw is (at i h)
  where
    at : (i : ℕ) → i < 4 → lane j (need_of (needing 0 0 0 0 0) i) ≡ false
    at zero h = lane_zero j
    at (suc zero) h = lane_zero j
    at (suc (suc zero)) h = lane_zero j
    at (suc (suc (suc zero))) h = lane_zero j
    at (suc (suc (suc (suc i)))) h = absurd (omega arith)
