-- The gates of a block in the order: what one of them adds to the row, and to the marks.
-- Assumes nothing.
use Prim.Native.Nat.{ℕ, zero, suc, ◌+◌, ◌-◌, ◌*◌, ◌≤◌, ◌<◌}
use native.Mathlib.Omega.{arith}
use native.Mathlib.Decide.{ℕ_discrete, dec_lt}
use mathlib.Core.Path.{◌≡◌, sym, ap, ◌∙◌}
use mathlib.Core.Bool.{Bool, true, false, not}
use mathlib.Core.List.{List, map}
use lib.ListN.{length, get_or, set}
use lib.Seq.{get_or-set_same, get_or-set_other}
use lib.Dec.{eqb}
use Rattle.gates.specs.Expression.{holds}
use Rattle.gates.specs.Cell.{pin_count, set_expression}
use Rattle.gates.proofs.Expressions.{holds_local, holds_mono}
use Rattle.runs.specs.Row.{Row, ◌∖◌, only}
use Rattle.runs.specs.Net.{IsGate}
use Rattle.runs.specs.Settled.{Settled}
use Rattle.runs.specs.Acknowledged.{Acknowledged, next}
use Rattle.runs.proofs.Test.{clash, not-true, and_in, and_left, and_right, of_not, eqb_same, eqb_other}
use Rattle.runs.proofs.Rise.{settled_gate, settled_inside}
use Rattle.netlist.specs.declared.Counts.{Counts}
use Rattle.netlist.specs.Content.{Stage}
use Rattle.verdict.specs.Loops.{In, pins_at, LoopFree}
use Rattle.verdict.specs.Nets.{set_in, rails_for, rest_row}
use Rattle.verdict.proofs.OneWord as word
use Rattle.circuit.specs.Stage.{net_count, cell_in, pin_in, gate_at_place, gate_in, stage_gates, stage_in, StageLoaded}
use Rattle.circuit.specs.Order.{StandsIn, InOrder, order_in}
use Rattle.circuit.proofs.Order.{order_no_loop}
use Rattle.circuit.proofs.Pins.{pins_few}
use Rattle.circuit.specs.Form.{GateAt}
use Rattle.circuit.proofs.Settling.{length_stage_gates, order_at}
use Rattle.lane_cells.specs.Lane.{lane, row_in}
use Rattle.lane_cells.specs.Cells.{need_of, pins_in, cell_lanes}
use Rattle.lane_cells.proofs.Lane.{lane_zero}
use Rattle.lane_cells.proofs.Cells.{Needs, need_of_holds, set_holds}
use Rattle.lane_settle.specs.Block.{net_in, LanesSettledTo}
use Rattle.lane_settle.proofs.Pins.{pin_at, pin_past, pin_in_holds, gate_pins_holds, driver_at}

module _ (c : Counts) (code : List ℕ) (ordered : InOrder c code) where
  abbrev pub stage : Stage
  stage = stage_in c code

  pub free : LoopFree c.inputs (stage_gates c code)
  free = order_no_loop c.inputs (stage_gates c code) (order_in c code) ordered.ordered

  -- the rest of a word is its settled row
  pub rest_settled : (w : ℕ) → Settled (net_in c code) (rails_for stage w) (rest_row stage w)
  rest_settled w = word.rest_settled stage w

  -- nothing is high past the nets
  pub rest_past : (w p : ℕ) → net_count c ≤ p → rest_row stage w p ≡ false
  rest_past w p h = not-true (rest_row stage w p) (λ e. omega (arith, length_stage_gates c code, settled_inside (net_in c code) (rails_for stage w) (rest_row stage w) (rest_settled w) p e))

  pub gate_net : (k : ℕ) → k < c.gates → IsGate (net_in c code) (2 * c.inputs + k)
  gate_net k h = omega (arith, length_stage_gates c code)

  pub rest_gate : (w k : ℕ) → k < c.gates → rest_row stage w (2 * c.inputs + k) ≡ set_in (rest_row stage w) (gate_in code k)
  rest_gate w k h =
      settled_gate (net_in c code) (rails_for stage w) (rest_row stage w) (rest_settled w) (2 * c.inputs + k) (gate_net k h)
      ∙ ap (set_in (rest_row stage w)) (driver_at c code k h)

-- ---- gate k, whose pins have their levels in word j

module _ (c : Counts) (code : List ℕ) (loaded : StageLoaded c code) (k : ℕ) (h : k < c.gates) where
  abbrev cell : ℕ
  cell = cell_in code k

  few : pin_count cell ≤ 4
  few = (pins_few cell (loaded.gate k h).low (loaded.gate k h).high).1

  abbrev pub lanes_at : List ℕ → ℕ → ℕ
  lanes_at row t = get_or row (pin_in code k t) 0

  abbrev pub levels : List ℕ → ℕ → ℕ → Bool
  levels row j = pins_in j (lanes_at row 0) (lanes_at row 1) (lanes_at row 2) (lanes_at row 3)

  -- by a row of that word in which nothing is high past the nets
  module _ (R : Row) (past : (p : ℕ) → net_count c ≤ p → R p ≡ false) (row : List ℕ) (j : ℕ)
      (same : (t : ℕ) → t < 4 → row_in j row (pin_in code k t) ≡ R (pin_in code k t)) where
    pub level_of : (t : ℕ) → t < 4 → levels row j t ≡ R (pin_in code k t)
    level_of zero l = same 0 l
    level_of (suc zero) l = same 1 l
    level_of (suc (suc zero)) l = same 2 l
    level_of (suc (suc (suc zero))) l = same 3 l
    level_of (suc (suc (suc (suc t)))) l = absurd (omega arith)

    -- a pin that the cell lacks is low
    pub pin_absent : (t : ℕ) → t < 4 → pin_count cell ≤ t → R (pin_in code k t) ≡ false
    pin_absent t l a = ap R ((loaded.gate k h).absent t a l) ∙ past (net_count c) (omega arith)

    pin_level : (t : ℕ) → t < 4 → levels row j t ≡ get_or (map R (gate_in code k).pins) t false
    pin_level t l = go (dec_lt t (pin_count cell))
      where
        go : Dec (t < pin_count cell) → levels row j t ≡ get_or (map R (gate_in code k).pins) t false
        go (yes a) = level_of t l ∙ sym (pin_at code k t R a l)
        go (no a) = level_of t l ∙ pin_absent t l (omega arith) ∙ sym (pin_past code k t R (omega arith))

    levels_set : holds (set_expression cell) (levels row j) ≡ set_in R (gate_in code k)
    levels_set =
        holds_local (set_expression cell) (levels row j) (λ i. get_or (map R (gate_in code k).pins) i false) (pin_level 0 (omega arith)) (pin_level 1 (omega arith))
        (pin_level 2 (omega arith)) (pin_level 3 (omega arith))

    pub set_lane : lane j (cell_lanes cell (lanes_at row 0) (lanes_at row 1) (lanes_at row 2) (lanes_at row 3)).set ≡ set_in R (gate_in code k)
    set_lane = set_holds cell j (lanes_at row 0) (lanes_at row 1) (lanes_at row 2) (lanes_at row 3) ∙ levels_set

  -- at the rest
  module _ (ordered : InOrder c code) (row : List ℕ) (j w : ℕ) (same : (t : ℕ) → t < 4 → row_in j row (pin_in code k t) ≡ rest_row (stage_in c code) w (pin_in code k t)) where
    abbrev R : Row
    R = rest_row (stage_in c code) w

    levels_hold : holds (set_expression cell) (levels row j) ≡ R (2 * c.inputs + k)
    levels_hold = levels_set R (rest_past c code ordered w) row j same ∙ sym (rest_gate c code ordered w k h)

    pub set_level : lane j (cell_lanes cell (lanes_at row 0) (lanes_at row 1) (lanes_at row 2) (lanes_at row 3)).set ≡ R (2 * c.inputs + k)
    set_level = set_lane R (rest_past c code ordered w) row j same ∙ sym (rest_gate c code ordered w k h)

    -- a net at a pin without which the gate would not be set is acknowledged, also where it stands at other pins too
    pub need_acknowledges : (t : ℕ) → t < 4 → lane j (need_of (cell_lanes cell (lanes_at row 0) (lanes_at row 1) (lanes_at row 2) (lanes_at row 3)) t) ≡ true
        → Acknowledged (net_in c code) R (pin_in code k t)
    need_acknowledges t l e = next (2 * c.inputs + k) (gate_net c code ordered k h) (sym levels_hold ∙ n.set) falls
      where
        n : Needs cell t (levels row j)
        n = need_of_holds cell t j (lanes_at row 0) (lanes_at row 1) (lanes_at row 2) (lanes_at row 3) l e

        p : ℕ
        p = pin_in code k t

        -- with the net low, at most those pins are high that are high with the pin low
        fewer : (i : ℕ) → get_or (map (R ∖ only p) (gate_in code k).pins) i false ≡ true → (levels row j ∖ only t) i ≡ true
        fewer i x = go (dec_lt i (pin_count cell))
          where
            go : Dec (i < pin_count cell) → (levels row j ∖ only t) i ≡ true
            go (yes a) =
                let y : (R ∖ only p) (pin_in code k i) ≡ true = sym (pin_at code k i (R ∖ only p) a (omega (arith, few))) ∙ x in
                and_in (levels row j i) (not (eqb i t)) (level_of R (rest_past c code ordered w) row j same i (omega (arith, few)) ∙ and_left (R (pin_in code k i)) (not (eqb (pin_in code k i) p)) y)
                (ap not (eqb_other i t
                (λ q. clash (ap (λ (z : ℕ). eqb (pin_in code k z) p) q ∙ eqb_same p) (of_not (eqb (pin_in code k i) p) (and_right (R (pin_in code k i)) (not (eqb (pin_in code k i) p)) y)))))
            go (no a) = absurd (clash x (pin_past code k i (R ∖ only p) (omega arith)))

        falls : (net_in c code).fires (R ∖ only p) (2 * c.inputs + k) ≡ false
        falls =
            ap (set_in (R ∖ only p)) (driver_at c code k h)
            ∙ not-true (set_in (R ∖ only p) (gate_in code k))
            (λ x. clash (holds_mono (set_expression cell) (λ i. get_or (map (R ∖ only p) (gate_in code k).pins) i false) (levels row j ∖ only t) fewer x) n.without)

-- ---- the gate at place i of the order

module _ (c : Counts) (code : List ℕ) (loaded : StageLoaded c code) (ordered : InOrder c code) (rows : ℕ → Row) (past : (j p : ℕ) → net_count c ≤ p → rows j p ≡ false)
    (row : List ℕ) (i : ℕ) (h : i < c.gates) (s : LanesSettledTo c code rows row i) (gate : ℕ) (stands : GateAt c code i gate) where
  -- its pins have their levels: they are rails, gates at earlier places, or the ground
  pub pins_settled : (j t : ℕ) → j < 64 → t < 4 → row_in j row (pin_in code gate t) ≡ rows j (pin_in code gate t)
  pins_settled j t d l = go (dec_lt p (2 * c.inputs)) (dec_lt p (net_count c))
    where
      p : ℕ
      p = pin_in code gate t

      go : Dec (p < 2 * c.inputs) → Dec (p < net_count c) → row_in j row p ≡ rows j p
      go (yes a) x = s.spelled.rails j p d a
      go (no a) (no x) =
          let e : p ≡ net_count c = omega (arith, (loaded.gate gate stands.there).pin t l) in
          ap (row_in j row) e ∙ ap (lane j) s.spelled.ground ∙ lane_zero j ∙ sym (past j p (omega arith))
      go (no a) (yes x) = earlier (ordered.ordered.earlier i g (omega (arith, length_stage_gates c code)) (omega (arith, length_stage_gates c code)) feeds)
        where
          g : ℕ
          g = p - 2 * c.inputs

          at_net : 2 * c.inputs + g ≡ p
          at_net = omega arith

          present : t < pin_count (cell_in code gate)
          present = has (dec_lt t (pin_count (cell_in code gate)))
            where
              has : Dec (t < pin_count (cell_in code gate)) → t < pin_count (cell_in code gate)
              has (yes y) = y
              has (no y) = absurd (omega (arith, (loaded.gate gate stands.there).absent t (omega arith) l))

          feeds : In (2 * c.inputs + g) (pins_at (stage_gates c code) (get_or (order_in c code) i 0))
          feeds = rw (at_net, order_at c code i h, ← stands.is, gate_pins_holds c code gate stands.there) (pin_in_holds code gate t present l)

          earlier : StandsIn (order_in c code) i g → row_in j row p ≡ rows j p
          earlier q =
              let e : 2 * c.inputs + gate_at_place code q.0 ≡ p = ap (λ (n : ℕ). 2 * c.inputs + n) (sym (order_at c code q.0 (omega (arith, q.1))) ∙ q.2) ∙ at_net in
              rw e at (s.gates j q.0 d q.1)

  -- once it has its levels, so have the gates at the first i + 1 places
  pub settled_more : net_count c < length row → (v : ℕ) → ((j : ℕ) → j < 64 → lane j v ≡ rows j (2 * c.inputs + gate)) → LanesSettledTo c code rows (set row (2 * c.inputs + gate) v) (i + 1)
  settled_more room v is = record {
    spelled = record {
      ground = get_or-set_other row at (net_count c) v 0 (λ e. omega (arith, stands.there)) ∙ s.spelled.ground;
      rails = λ j p d l. ap (lane j) (get_or-set_other row at p v 0 (λ e. omega arith)) ∙ s.spelled.rails j p d l;
    };
    gates = λ j q d l. go j q d l (ℕ_discrete (gate_at_place code q) gate);
  }
    where
      at : ℕ
      at = 2 * c.inputs + gate

      go : (j q : ℕ) → j < 64 → q < i + 1 → Dec (gate_at_place code q ≡ gate) → row_in j (set row at v) (2 * c.inputs + gate_at_place code q) ≡ rows j (2 * c.inputs + gate_at_place code q)
      go j q d l (yes e) = rw e (ap (lane j) (get_or-set_same row at v 0 (omega (arith, stands.there))) ∙ is j d)
      go j q d l (no n) = ap (lane j) (get_or-set_other row at (2 * c.inputs + gate_at_place code q) v 0 (λ e. n (omega arith))) ∙ s.gates j q d (omega (arith, before))
        where
          before : (q ≡ i) → ⊥
          before e = n (ap (gate_at_place code) e ∙ sym stands.is)
