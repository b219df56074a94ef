-- Gates asked net by net: where a gate is set with some nets taken low, and which nets it then acknowledges.
-- Assumes nothing.
use Prim.Native.Nat.{ℕ, zero, suc, ◌+◌, ◌*◌, ◌≤◌, ◌<◌}
use native.Mathlib.Omega.{arith}
use native.Mathlib.Decide.{dec_lt}
use mathlib.Core.Path.{◌≡◌, refl, sym, ap, ◌∙◌, subst}
use mathlib.Core.Bool.{Bool, true, false, cond, not, ◌&&◌}
use mathlib.Core.Logic.{inl, inr}
use mathlib.Core.List.{List, ◌∷◌, map}
use lib.ListN.{length, get_or}
use lib.Dec.{eqb}
use lib.Bits.{bit_xor}
use Rattle.gates.specs.Expression.{holds}
use Rattle.gates.specs.Cell.{pin_count, set_expression}
use Rattle.gates.proofs.Expressions.{holds_mono, holds_local}
use Rattle.runs.specs.Row.{Row, ◌∖◌, only}
use Rattle.runs.specs.Theory.{◌⊑◌}
use Rattle.runs.specs.Net.{all_low, may_fall}
use Rattle.runs.specs.Acknowledged.{Acknowledged, next, FallAcknowledged, fall_next}
use Rattle.runs.proofs.Test.{clash, eqb_same, eqb_eq, and_left, and_right}
use Rattle.netlist.specs.declared.Counts.{Counts}
use Rattle.netlist.specs.Content.{Gate}
use Rattle.verdict.specs.Loops.{In}
use Rattle.verdict.specs.Nets.{set_in}
use Rattle.verdict.proofs.Bridge.{pins_mono}
use Rattle.circuit.specs.Stage.{net_count, cell_in, pin_in, gate_in, StageLoaded}
use Rattle.circuit.specs.Order.{InOrder}
use Rattle.lane_cells.specs.declared.CellLanes.{CellLanes}
use Rattle.lane_cells.specs.Lane.{lane, row_in}
use Rattle.lane_cells.specs.Cells.{needing, need_of, pins_in}
use Rattle.lane_cells.proofs.Lane.{lane_zero, unlike, lane_xor}
use Rattle.lane_cells.proofs.Cells.{set_holds}
use Rattle.lane_settle.specs.declared.PinLanes.{PinLanes}
use Rattle.lane_settle.specs.Block.{rest_in, net_in, Resting, AcknowledgedIn, MarkedIn, pin_lanes, PinsMarked}
use Rattle.lane_screen.specs.Marks.{PinsAcknowledged, Lone, keeps, cofactor_pin, cofactor_of, cofactors_of}
use Rattle.lane_settle.proofs.Pins.{pin_at, pin_past, pin_in_holds, driver_at}
use Rattle.lane_settle.proofs.Marks.{marked_pins}
use Rattle.lane_settle.proofs.Settling.{gate_net, rest_gate, rest_past}

-- some net of a list is high
not_all_low : (r : Row) (l : List ℕ) (p : ℕ) → In p l → r p ≡ true → all_low r l ≡ false
not_all_low r mathlib.Core.List.[] p x'' u = elim x'' [ ]
not_all_low r (q ∷ l) p (inl e) u = rw (sym (ap r e) ∙ u)
not_all_low r (q ∷ l) p (inr i) u = go (not (r q)) (not_all_low r l p i u)
  where
    go : (b : Bool) → all_low r l ≡ false → (b && all_low r l) ≡ false
    go true e = e
    go false e = refl

set-mono : (r s : Row) → r ⊑ s → (g : Gate) → set_in r g ≡ true → set_in s g ≡ true
set-mono r s h g = holds_mono (set_expression g.cell) (λ i. get_or (map r g.pins) i false) (λ i. get_or (map s g.pins) i false) (pins_mono r s h g.pins)

-- ---- word j of a block that is at rest

module _ (c : Counts) (code : List ℕ) (loaded : StageLoaded c code) (ordered : InOrder c code) (k : ℕ) (h : k < c.gates) (row : List ℕ) (b j : ℕ) (d : j < 64) (rest : Resting c code b row) where
  abbrev R : Row
  R = rest_in c code b j

  abbrev g : ℕ
  g = 2 * c.inputs + k

  -- the row with the nets that are kept, and the others low
  abbrev kept : Bool → ℕ → Row
  kept alone net p = R p && keeps alone net p

  and-false : (x : Bool) → (x && false) ≡ false
  and-false true = refl
  and-false false = refl

  and-true : (x : Bool) → (x && true) ≡ x
  and-true true = refl
  and-true false = refl

  level : (p : ℕ) → p ≤ net_count c → row_in j row p ≡ R p
  level p l = go (dec_lt p (net_count c))
    where
      go : Dec (p < net_count c) → row_in j row p ≡ R p
      go (yes a) = rest.nets j p d a
      go (no a) =
          let e : p ≡ net_count c = omega arith in
          ap (row_in j row) e ∙ ap (lane j) rest.ground ∙ lane_zero j ∙ sym (rest_past c code ordered (64 * b + j) p (omega arith))

  kept_level : (alone : Bool) (net p : ℕ) → p ≤ net_count c → lane j (cofactor_pin row alone net p) ≡ kept alone net p
  kept_level alone net p l = go (keeps alone net p)
    where
      go : (t : Bool) → lane j (cond t (get_or row p 0) 0) ≡ (R p && t)
      go true = level p l ∙ sym (and-true (R p))
      go false = lane_zero j ∙ sym (and-false (R p))

  pins : Bool → ℕ → ℕ → Bool
  pins alone net =
      pins_in j (cofactor_pin row alone net (pin_in code k 0)) (cofactor_pin row alone net (pin_in code k 1)) (cofactor_pin row alone net (pin_in code k 2)) (cofactor_pin row alone net (pin_in code k 3))

  pin_level : (alone : Bool) (net t : ℕ) → t < 4 → pins alone net t ≡ lane j (cofactor_pin row alone net (pin_in code k t)) → pins alone net t ≡ get_or (map (kept alone net) (gate_in code k).pins) t false
  pin_level alone net t l e = go (dec_lt t (pin_count (cell_in code k)))
    where
      level_of : pins alone net t ≡ kept alone net (pin_in code k t)
      level_of = e ∙ kept_level alone net (pin_in code k t) ((loaded.gate k h).pin t l)

      go : Dec (t < pin_count (cell_in code k)) → pins alone net t ≡ get_or (map (kept alone net) (gate_in code k).pins) t false
      go (yes a) = level_of ∙ sym (pin_at code k t (kept alone net) a l)
      go (no a) =
          let low : R (pin_in code k t) ≡ false = ap R ((loaded.gate k h).absent t (omega arith) l) ∙ rest_past c code ordered (64 * b + j) (net_count c) (omega arith) in
          level_of ∙ ap (λ (x : Bool). x && keeps alone net (pin_in code k t)) low ∙ sym (pin_past code k t (kept alone net) (omega arith))

  pub cofactor : (alone : Bool) (net : ℕ) → lane j (cofactor_of code k row alone net) ≡ set_in (kept alone net) (gate_in code k)
  unfolding pins
  cofactor alone net =
      set_holds (cell_in code k) j (cofactor_pin row alone net (pin_in code k 0)) (cofactor_pin row alone net (pin_in code k 1)) (cofactor_pin row alone net (pin_in code k 2))
      (cofactor_pin row alone net (pin_in code k 3))
      ∙ holds_local (set_expression (cell_in code k)) (pins alone net) (λ i. get_or (map (kept alone net) (gate_in code k).pins) i false)
      (pin_level alone net 0 (omega arith) refl) (pin_level alone net 1 (omega arith) refl) (pin_level alone net 2 (omega arith) refl) (pin_level alone net 3 (omega arith) refl)

  module _ (t : ℕ) (l : t < 4) (there : pin_in code k t < net_count c) where
    abbrev p : ℕ
    p = pin_in code k t

    -- a pin that the cell lacks is at the ground
    present : t < pin_count (cell_in code k)
    present = go (dec_lt t (pin_count (cell_in code k)))
      where
        go : Dec (t < pin_count (cell_in code k)) → t < pin_count (cell_in code k)
        go (yes a) = a
        go (no a) = absurd (omega (arith, (loaded.gate k h).absent t (omega arith) l))

    -- in the rise: it is high, and not set with that net low
    need_acknowledges : (high : ℕ) → high ≡ get_or row g 0 → lane j (bit_xor high (cofactor_of code k row false p)) ≡ true → Acknowledged (net_in c code) R p
    need_acknowledges high is e = go (R g) refl (set_in (R ∖ only p) (gate_in code k)) refl
        (sym (ap (λ (x : Bool). unlike x (set_in (R ∖ only p) (gate_in code k))) (ap (lane j) is ∙ rest.nets j g d (omega arith)))
        ∙ sym (ap (unlike (lane j high)) (cofactor false p)) ∙ sym (lane_xor j high (cofactor_of code k row false p)) ∙ e)
      where
        go : (x : Bool) → R g ≡ x → (y : Bool) → set_in (R ∖ only p) (gate_in code k) ≡ y → unlike x y ≡ true → Acknowledged (net_in c code) R p
        go true u true v z = absurd (clash z refl)
        go true u false v z = next g (gate_net c code ordered k h) u (ap (set_in (R ∖ only p)) (driver_at c code k h) ∙ v)
        go false u true v z =
            absurd (clash (rest_gate c code ordered (64 * b + j) k h ∙ set-mono (R ∖ only p) R (λ q. and_left (R q) (not (eqb q p))) (gate_in code k) v) u)
        go false u false v z = absurd (clash z refl)

    by_hold : (x : Bool) → (gate_in code k).hold ≡ x → may_fall (net_in c code) (only p) g ≡ cond x (all_low (only p) (gate_in code k).pins) (not (set_in (only p) (gate_in code k)))
    by_hold x e =
        ap (λ (y : Gate). cond y.hold (all_low (only p) y.pins) (not (set_in (only p) y))) (driver_at c code k h)
        ∙ ap (λ (y : Bool). cond y (all_low (only p) (gate_in code k).pins) (not (set_in (only p) (gate_in code k)))) e

    -- on the way back: with hold it waits for all of its pins
    hold_acknowledges : (gate_in code k).hold ≡ true → R g ≡ true → FallAcknowledged (net_in c code) R p
    hold_acknowledges e u =
        fall_next g (gate_net c code ordered k h) u
        (by_hold true e ∙ not_all_low (only p) (gate_in code k).pins p (pin_in_holds code k t present l) (eqb_same p))

    -- relaxed it waits for a net that sets it alone
    alone-acknowledges : (gate_in code k).hold ≡ false → lane j (cofactor_of code k row true p) ≡ true → FallAcknowledged (net_in c code) R p
    alone-acknowledges n e =
        let set : set_in (kept true p) (gate_in code k) ≡ true = sym (cofactor true p) ∙ e in
        fall_next g (gate_net c code ordered k h)
        (rest_gate c code ordered (64 * b + j) k h ∙ set-mono (kept true p) R (λ q. and_left (R q) (eqb q p)) (gate_in code k) set)
        (by_hold false n ∙ ap not (set-mono (kept true p) (only p) (λ q. and_right (R q) (eqb q p)) (gate_in code k) set))

    -- as it does for one that stands at a pin which does
    lone_acknowledges : (gate_in code k).hold ≡ false → R p ≡ true → holds (set_expression (cell_in code k)) (only t) ≡ true → FallAcknowledged (net_in c code) R p
    lone_acknowledges n u lone =
        fall_next g (gate_net c code ordered k h) (rest_gate c code ordered (64 * b + j) k h ∙ sets R u) (by_hold false n ∙ ap not (sets (only p) (eqb_same p)))
      where
        sets : (r : Row) → r p ≡ true → set_in r (gate_in code k) ≡ true
        sets r v =
            holds_mono (set_expression (cell_in code k)) (only t) (λ i. get_or (map r (gate_in code k).pins) i false)
            (λ i e. rw (eqb_eq i t e) (pin_at code k t r present l ∙ v)) lone

-- ---- for all four pins

by_pins : (P : ℕ → Type 0) (r : CellLanes) (j : ℕ) → (lane j r.a ≡ true → P 0) → (lane j r.b ≡ true → P 1) → (lane j r.c ≡ true → P 2) → (lane j r.d ≡ true → P 3)
    → (t : ℕ) → t < 4 → lane j (need_of r t) ≡ true → P t
by_pins P r j a b c d zero h e = a e
by_pins P r j a b c d (suc zero) h e = b e
by_pins P r j a b c d (suc (suc zero)) h e = c e
by_pins P r j a b c d (suc (suc (suc zero))) h e = d e
by_pins P r j a b c d (suc (suc (suc (suc t)))) h e = absurd (omega arith)

module _ (c : Counts) (code : List ℕ) (loaded : StageLoaded c code) (ordered : InOrder c code) (k : ℕ) (h : k < c.gates) (row : List ℕ) where
  pub acknowledged_rise : (high : ℕ) → high ≡ get_or row (2 * c.inputs + k) 0 → (low : CellLanes) → low ≡ cofactors_of code k row false
      → PinsAcknowledged false c code k row (needing high (bit_xor high low.a) (bit_xor high low.b) (bit_xor high low.c) (bit_xor high low.d))
  acknowledged_rise high is low each b rest j t d l there e =
      by_pins (λ t. t < 4 → pin_in code k t < net_count c → Acknowledged (net_in c code) (rest_in c code b j) (pin_in code k t))
      (needing high (bit_xor high low.a) (bit_xor high low.b) (bit_xor high low.c) (bit_xor high low.d)) j
      (at 0 (ap (λ (r : CellLanes). r.a) each)) (at 1 (ap (λ (r : CellLanes). r.b) each)) (at 2 (ap (λ (r : CellLanes). r.c) each)) (at 3 (ap (λ (r : CellLanes). r.d) each)) t l e l there
    where
      at : (t : ℕ) {x : ℕ} → x ≡ cofactor_of code k row false (pin_in code k t) → lane j (bit_xor high x) ≡ true → t < 4 → pin_in code k t < net_count c
          → Acknowledged (net_in c code) (rest_in c code b j) (pin_in code k t)
      at t q z l there = need_acknowledges c code loaded ordered k h row b j d rest t l there high is (sym (ap (λ (y : ℕ). lane j (bit_xor high y)) q) ∙ z)

  pub acknowledged_hold : (gate_in code k).hold ≡ true → (high : ℕ) → high ≡ get_or row (2 * c.inputs + k) 0 → PinsAcknowledged true c code k row (needing high high high high high)
  acknowledged_hold e high is b rest j t d l there z =
      by_pins (λ t. t < 4 → pin_in code k t < net_count c → FallAcknowledged (net_in c code) (rest_in c code b j) (pin_in code k t)) (needing high high high high high) j
      (at 0) (at 1) (at 2) (at 3) t l z l there
    where
      at : (t : ℕ) → lane j high ≡ true → t < 4 → pin_in code k t < net_count c → FallAcknowledged (net_in c code) (rest_in c code b j) (pin_in code k t)
      at t u l there = hold_acknowledges c code loaded ordered k h row b j d rest t l there e (sym (rest.nets j (2 * c.inputs + k) d (omega arith)) ∙ sym (ap (lane j) is) ∙ u)

  pub acknowledged_relaxed : (gate_in code k).hold ≡ false → (r : CellLanes) → r ≡ cofactors_of code k row true → PinsAcknowledged true c code k row r
  acknowledged_relaxed n r each b rest j t d l there z =
      by_pins (λ t. t < 4 → pin_in code k t < net_count c → FallAcknowledged (net_in c code) (rest_in c code b j) (pin_in code k t)) r j
      (at 0 (ap (λ (r : CellLanes). r.a) each)) (at 1 (ap (λ (r : CellLanes). r.b) each))
      (at 2 (ap (λ (r : CellLanes). r.c) each)) (at 3 (ap (λ (r : CellLanes). r.d) each)) t l z l there
    where
      at : (t : ℕ) {x : ℕ} → x ≡ cofactor_of code k row true (pin_in code k t) → lane j x ≡ true → t < 4 → pin_in code k t < net_count c
          → FallAcknowledged (net_in c code) (rest_in c code b j) (pin_in code k t)
      at t q u l there = alone-acknowledges c code loaded ordered k h row b j d rest t l there n (sym (ap (lane j) q) ∙ u)

  pub acknowledged_lone : (gate_in code k).hold ≡ false → (r : CellLanes) → Lone code k row r → PinsAcknowledged true c code k row r
  acknowledged_lone n r lone b rest j t d l there z =
      let both = lone j t l z in
      lone_acknowledges c code loaded ordered k h row b j d rest t l there n (sym (rest.nets j (pin_in code k t) d there) ∙ both.0) both.1

-- the levels at the pins are those of four nets
pins_of : (code row : List ℕ) (k j t : ℕ) → t < 4 → (at : PinLanes) → at ≡ pin_lanes code k row → pins_in j at.a at.b at.c at.d t ≡ row_in j row (pin_in code k t)
pins_of code row k j zero h at is = ap (λ (p : PinLanes). lane j p.a) is
pins_of code row k j (suc zero) h at is = ap (λ (p : PinLanes). lane j p.b) is
pins_of code row k j (suc (suc zero)) h at is = ap (λ (p : PinLanes). lane j p.c) is
pins_of code row k j (suc (suc (suc zero))) h at is = ap (λ (p : PinLanes). lane j p.d) is
pins_of code row k j (suc (suc (suc (suc t)))) h at is = absurd (omega arith)

pub lone_at : (code row : List ℕ) (k cell : ℕ) → cell ≡ cell_in code k → (at : PinLanes) → at ≡ pin_lanes code k row → (words : CellLanes)
    → ((j i : ℕ) → i < 4 → lane j (need_of words i) ≡ true → (pins_in j at.a at.b at.c at.d i ≡ true) × (holds (set_expression cell) (only i) ≡ true)) → Lone code k row words
lone_at code row k cell e at is words lone j t l v =
    let both = lone j t l v in
    (sym (pins_of code row k j t l at is) ∙ both.0, subst (λ (n : ℕ). holds (set_expression n) (only t) ≡ true) e both.1)

-- ---- all gates

-- marks more, where in a block at rest what is marked stays acknowledged
pub record GatesTo (falls : Bool) (c : Counts) (code row start ack : List ℕ) : Type 0 where
  pub same_long : length ack ≡ length start
  pub each : (b : ℕ) → Resting c code b row → MarkedIn falls c code b start → MarkedIn falls c code b ack

module _ (falls : Bool) (c : Counts) (code row start : List ℕ) where
  pub gates_start : GatesTo falls c code row start start
  gates_start = record { same_long = refl; each = λ b r m. m }

  pub gates_turn : (ack : List ℕ) → GatesTo falls c code row start ack → (k : ℕ) (words : CellLanes) → PinsAcknowledged falls c code k row words → (ack' : List ℕ) → length ack' ≡ length ack
      → PinsMarked code k words ack ack' → GatesTo falls c code row start ack'
  gates_turn ack s k words ok ack' long more = record {
    same_long = long ∙ s.same_long;
    each = λ b r m. marked_pins (λ j p. AcknowledgedIn falls (net_in c code) (rest_in c code b j) p) c code k words ack ack' more (ok b r) (s.each b r m);
  }
