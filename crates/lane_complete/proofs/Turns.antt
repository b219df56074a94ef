-- The gates of 64 rows in the order: one turn of a loop that gives each its levels, by the rise or by the fall.
-- Assumes nothing.
use Prim.Native.Nat.{ℕ, ◌+◌, ◌*◌, ◌≤◌, ◌<◌}
use native.Mathlib.Omega.{arith}
use mathlib.Core.Path.{◌≡◌, sym, ap₂, ◌∙◌}
use mathlib.Core.Bool.{Bool, true, false, not, ◌&&◌, ◌||◌}
use mathlib.Core.List.{List}
use lib.ListN.{get_or, set}
use lib.Bits.{bit_and}
use Rattle.runs.specs.Row.{Row, only}
use Rattle.runs.specs.Net.{rails_of_inputs, may_fall}
use Rattle.runs.proofs.Test.{clash, not-true, and_left, le-ltb}
use Rattle.runs.proofs.Net.{by_net_gate}
use Rattle.runs.proofs.Rise.{settled_gate, settled_inside}
use Rattle.netlist.specs.declared.Counts.{Counts}
use Rattle.circuit.specs.Stage.{net_count, StageLoaded}
use Rattle.circuit.specs.Order.{InOrder}
use Rattle.circuit.specs.Form.{GateAt}
use Rattle.circuit.proofs.Settling.{length_stage_gates}
use Rattle.lane_cells.specs.Lane.{lane}
use Rattle.lane_cells.proofs.Lane.{lane_and}
use Rattle.lane_settle.specs.Block.{rest_in, net_in, Room, Spelled, LanesSettledTo, AtRest}
use Rattle.lane_settle.proofs.Settling.{gate_net, rest_past, pins_settled, settled_more}
use Rattle.lane_complete.specs.Rows.{SettledRows, FallenRows, PinsAs, MayRise, MayNotFall}

-- the gates at the first i places have their levels in all rows that are spelled at the start
abbrev pub SettlesTo : ((ℕ → Row) → Type 0) → Counts → List ℕ → List ℕ → List ℕ → ℕ → Type 0
SettlesTo Ok c code start row i = (rows : ℕ → Row) → Ok rows → Spelled c rows start → LanesSettledTo c code rows row i

pub settles_start : (Ok : (ℕ → Row) → Type 0) (c : Counts) (code start : List ℕ) → SettlesTo Ok c code start start 0
settles_start Ok c code start rows ok s = record { spelled = s; gates = λ j q d l. absurd (omega arith) }

module _ (c : Counts) (code : List ℕ) (loaded : StageLoaded c code) (ordered : InOrder c code) (start row : List ℕ) (room : Room c row) (i : ℕ) (h : i < c.gates) (k : ℕ)
    (at : GateAt c code i k) where
  -- by any rule that reads a gate's pins
  settles_turn : (Ok : (ℕ → Row) → Type 0) → ((rows : ℕ → Row) → Ok rows → (j p : ℕ) → net_count c ≤ p → rows j p ≡ false) → SettlesTo Ok c code start row i → (v : ℕ)
      → ((rows : ℕ → Row) → Ok rows → (j : ℕ) → j < 64 → PinsAs c code k row j (rows j) → lane j v ≡ rows j (2 * c.inputs + k))
      → SettlesTo Ok c code start (set row (2 * c.inputs + k) v) (i + 1)
  settles_turn Ok past s v level rows ok spelled =
      let done = s rows ok spelled in
      settled_more c code loaded ordered rows (past rows ok) row i h done k at room v
      (λ j d. level rows ok j d (record { past = past rows ok j; pins = λ t l. pins_settled c code loaded ordered rows (past rows ok) row i h done k at j t d l }))

  pub rise_turn : SettlesTo (SettledRows c code) c code start row i → (v : ℕ) → MayRise c code k row v
      → SettlesTo (SettledRows c code) c code start (set row (2 * c.inputs + k) v) (i + 1)
  rise_turn s v rises =
      settles_turn (SettledRows c code)
      (λ rows ok j p a. not-true (rows j p) (λ e. omega (arith, length_stage_gates c code, settled_inside (net_in c code) (rows j) (rows j) (ok j) p e)))
      s v (λ rows ok j d like. rises j (rows j) like ∙ sym (settled_gate (net_in c code) (rows j) (rows j) (ok j) (2 * c.inputs + k) (gate_net c code ordered k at.there)))

  -- with input n kept
  module _ (b n : ℕ) (rest : List ℕ) (at_rest : AtRest c code b rest) where
    pub fall_turn : SettlesTo (FallenRows c code b n) c code start row i → (v : ℕ) → MayNotFall c code k row v
        → SettlesTo (FallenRows c code b n) c code start (set row (2 * c.inputs + k) (bit_and (get_or rest (2 * c.inputs + k) 0) v)) (i + 1)
    fall_turn s v stays = settles_turn (FallenRows c code b n)
        (λ rows ok j p a. not-true (rows j p) (λ e. clash (and_left (rest_in c code b j p) _ (sym (ok j p) ∙ e)) (rest_past c code ordered (64 * b + j) p a)))
        s (bit_and (get_or rest g 0) v) (λ rows ok j d like.
        lane_and j (get_or rest g 0) v
        ∙ ap₂ (λ (x y : Bool). x && y) (at_rest j g d (omega (arith, at.there))) (stays j (rows j) like)
        ∙ sym (ok j g ∙ ap₂ (λ (x y : Bool). rest_in c code b j g && (x || not y)) rail-not (by_net_gate (net_in c code) g true (may_fall (net_in c code) (rows j) g) (gate_net c code ordered k at.there))))
      where
        g : ℕ
        g = 2 * c.inputs + k

        -- a gate is no rail
        rail-not : rails_of_inputs (net_in c code) (only n) g ≡ false
        rail-not = rw (le-ltb g (2 * c.inputs) (omega arith))
