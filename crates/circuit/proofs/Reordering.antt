-- Writing the order of the gates leaves the stage as it is.
-- Assumes nothing.
use Prim.Native.Nat.{ℕ, ◌+◌, ◌*◌, ◌≤◌, ◌<◌}
use native.Mathlib.Omega.{arith}
use mathlib.Core.Path.{◌≡◌, refl, sym, ap, ◌∙◌, subst, fun_ext}
use mathlib.Core.List.{List}
use lib.ListN.{length, set, length-set}
use lib.Seq.{get_or-set_other, get_or-set_same}
use Rattle.netlist.specs.declared.Counts.{Counts}
use Rattle.netlist.specs.Content.{Gate, Pair}
use Rattle.circuit.specs.Stage.{tabulate, net_count, cell_in, slot, pin_in, gate_in, stage_gates, output_in, stage_outputs, care_in, stage_care, stage_in, GateLoaded, StageLoaded}
use Rattle.circuit.specs.Form.{Apart, Reordered, GatePlaced}

pub reordered_refl : (c : Counts) (code : List ℕ) → Reordered c code code
reordered_refl c code = record { long = refl; kept = λ i a. refl }

pub reordered_trans : (c : Counts) (u v w : List ℕ) → Reordered c u v → Reordered c v w → Reordered c u w
reordered_trans c u v w p q = record { long = q.long ∙ p.long; kept = λ i a. q.kept i a ∙ p.kept i a }

-- a number of the order is written
reordered_set : (c : Counts) (before code : List ℕ) (at x : ℕ) → ((i : ℕ) → Apart c i → ¬ (i ≡ at)) → Reordered c before code →
    Reordered c before (set code at x)
reordered_set c before code at x other r = record {
  long = length-set code at x ∙ r.long;
  kept = λ i a. get_or-set_other code at i x 0 (other i a) ∙ r.kept i a;
}

-- gate k is written to place i
module _ (c : Counts) (code : List ℕ) (k i : ℕ) (hk : k < c.gates) (hi : i < c.gates) (room : 8 * c.gates ≤ length code) where
  abbrev first : List ℕ
  first = set code (8 * i + 5) k

  pub gate_placed : GatePlaced c code (set (set code (8 * i + 5) k) (8 * k + 6) i) k i
  gate_placed = record {
    reordered = reordered_set c code first (8 * k + 6) i (λ j a e. (a k hk).1 e) (reordered_set c code code (8 * i + 5) k (λ j a e. (a i hi).0 e) (reordered_refl c code));
    gate_new = get_or-set_other first (8 * k + 6) (8 * i + 5) i 0 (λ e. omega arith) ∙ get_or-set_same code (8 * i + 5) k 0 (omega arith);
    gate_old = λ j d. get_or-set_other first (8 * k + 6) (8 * j + 5) i 0 (λ e. omega arith) ∙ get_or-set_other code (8 * i + 5) (8 * j + 5) k 0 (λ e. d (omega arith));
    place_new = get_or-set_same first (8 * k + 6) i 0 (omega (arith, length-set code (8 * i + 5) k));
    place_old = λ m d. get_or-set_other first (8 * k + 6) (8 * m + 6) i 0 (λ e. d (omega arith)) ∙ get_or-set_other code (8 * i + 5) (8 * m + 6) k 0 (λ e. omega arith);
  }

module _ (c : Counts) (before code : List ℕ) (r : Reordered c before code) where
  cell_kept : (k : ℕ) → cell_in code k ≡ cell_in before k
  cell_kept k = r.kept (8 * k) (λ m h. (λ e. omega arith, λ e. omega arith))

  hold_kept : (k : ℕ) → slot code k 7 ≡ slot before k 7
  hold_kept k = r.kept (8 * k + 7) (λ m h. (λ e. omega arith, λ e. omega arith))

  pub pin_kept : (k i : ℕ) → i < 4 → pin_in code k i ≡ pin_in before k i
  pin_kept k i l = r.kept (8 * k + (1 + i)) (λ m h. (λ e. omega arith, λ e. omega arith))

  gate-kept : (k : ℕ) → gate_in code k ≡ gate_in before k
  gate-kept k =
      rw (cell_kept k, hold_kept k, pin_kept k 0 (omega arith), pin_kept k 1 (omega arith), pin_kept k 2 (omega arith), pin_kept k 3 (omega arith))

  pub gates_kept : stage_gates c code ≡ stage_gates c before
  unfolding stage_gates
  gates_kept = ap (λ (f : ℕ → Gate). tabulate f c.gates) (fun_ext gate-kept)

  output_kept : (j : ℕ) → output_in c code j ≡ output_in c before j
  output_kept j =
      rw (
        r.kept (8 * c.gates + 2 * j) (λ m h. (λ e. omega arith, λ e. omega arith)),
        r.kept (8 * c.gates + 2 * j + 1) (λ m h. (λ e. omega arith, λ e. omega arith)),
      )

  care_kept : (i : ℕ) → care_in c code i ≡ care_in c before i
  care_kept i = r.kept (8 * c.gates + 2 * c.outputs + i) (λ m h. (λ e. omega arith, λ e. omega arith))

  pub stage_kept : stage_in c code ≡ stage_in c before
  unfolding stage_outputs stage_care
  stage_kept = rw (gates_kept, fun_ext output_kept, fun_ext care_kept)

  pub loaded_kept : StageLoaded c before → StageLoaded c code
  loaded_kept l = record {
    within = l.within;
    room = omega (arith, l.room, r.long);
    gate = λ k h. gate k (l.gate k h);
    rail0_net = λ j h. subst (λ (p : Pair). p.rail0 < net_count c) (sym (output_kept j)) (l.rail0_net j h);
    rail1_net = λ j h. subst (λ (p : Pair). p.rail1 < net_count c) (sym (output_kept j)) (l.rail1_net j h);
  }
    where
      gate : (k : ℕ) → GateLoaded c before k → GateLoaded c code k
      gate k g = record {
        low = omega (arith, cell_kept k, g.low);
        high = omega (arith, cell_kept k, g.high);
        pin = λ i h. omega (arith, pin_kept k i h, g.pin i h);
        absent = λ i a h. pin_kept k i h ∙ g.absent i (rw (cell_kept k) at a) h;
      }
