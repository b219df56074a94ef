-- When a net has switched, those below it and below what it feeds may switch exactly if they could before. Assumes nothing.
use Prim.Native.Nat.{ℕ, zero, suc, ◌+◌, ◌-◌, ◌*◌, ◌≤◌, ◌<◌}
use native.Mathlib.Omega.{arith}
use mathlib.Core.Path.{◌≡◌, refl, sym, ap, ap₂, ◌∙◌, subst}
use mathlib.Core.Logic.{◌≢◌}
use mathlib.Core.Bool.{Bool, false, cond, not}
use mathlib.Core.List.{List, [], ◌∷◌}
use lib.ListN.{get_or, take}
use Rattle.gates.specs.Expression.{holds}
use Rattle.gates.specs.Cell.{set_expression, pin_count}
use Rattle.runs.specs.Row.{Row, toggle}
use Rattle.runs.specs.Net.{Net, may_rise, may_fall, all_low}
use Rattle.runs.specs.Acyclic.{AllPins}
use Rattle.runs.proofs.Row.{toggle_other}
use Rattle.runs.proofs.Net.{by_net_both, all_low_local}
use Rattle.netlist.specs.declared.Counts.{Counts}
use Rattle.netlist.specs.Content.{Gate}
use Rattle.verdict.specs.Nets.{no_gate, driver, set_in}
use Rattle.verdict.proofs.Bridge.{pins_local}
use Rattle.check_spec.specs.Lists.{xor}
use Rattle.circuit.specs.Stage.{net_count, cell_in, pin_in, gate_in, stage_gates, stage_in}
use Rattle.circuit.proofs.Tabulate.{get_d_tabulate}
use Rattle.circuit.proofs.Settling.{length_stage_gates}
use Rattle.circuit_steps.specs.Moves.{gate_moves, moves, loaded_net}
use Rattle.circuit_steps.specs.Fed.{FedFrom}

pins-take : (P : ℕ → Type 0) (m : ℕ) (l : List ℕ) → AllPins P l → AllPins P (take m l)
pins-take P zero l h = tt
pins-take P (suc m) [] h = tt
pins-take P (suc m) (p ∷ l) h = (h.0, pins-take P m l h.1)

module _ (c : Counts) (code fed : List ℕ) (f : FedFrom c code 0 fed) (goal r : Row) (k : ℕ) where
  abbrev N : Net
  N = loaded_net c code

  module _ (j : ℕ) (other : j ≢ k) (below : j < get_or fed k 0) where
    same : toggle r k j ≡ r j
    same = toggle_other r k j other

    -- no pin of a gate there is the net that has switched
    not_fed : (g i : ℕ) → j ≡ 2 * c.inputs + g → g < c.gates → i < 4 → toggle r k (pin_in code g i) ≡ r (pin_in code g i)
    not_fed g i e h l = toggle_other r k (pin_in code g i) (λ q. omega (arith, f.least g i (omega arith) h l, ap (λ (p : ℕ). get_or fed p 0) q))

    pins-same : 2 * c.inputs ≤ j → j < net_count c → AllPins (λ p. toggle r k p ≡ r p) (N.pins j)
    unfolding stage_gates
    pins-same a b =
        let g = j - 2 * c.inputs in
        let e : j ≡ 2 * c.inputs + g = omega arith in
        let h : g < c.gates = omega arith in
        let is : driver (stage_in c code) j ≡ gate_in code g = get_d_tabulate (gate_in code) c.gates g no_gate h in
        subst (λ (x : Gate). AllPins (λ p. toggle r k p ≡ r p) x.pins) (sym is)
        (pins-take (λ p. toggle r k p ≡ r p) (pin_count (cell_in code g)) (pin_in code g 0 ∷ pin_in code g 1 ∷ pin_in code g 2 ∷ pin_in code g 3 ∷ [])
        (not_fed g 0 e h (omega arith), (not_fed g 1 e h (omega arith), (not_fed g 2 e h (omega arith), (not_fed g 3 e h (omega arith), tt)))))

    gate_same : 2 * c.inputs ≤ j → j < net_count c → gate_moves N (toggle r k) j ≡ gate_moves N r j
    gate_same a b =
        let p = pins-same a b in
        let G = driver (stage_in c code) j in
        let fires : set_in (toggle r k) G ≡ set_in r G = ap (λ (l : List Bool). holds (set_expression G.cell) (λ i. get_or l i false)) (pins_local (toggle r k) r G.pins p) in
        let lows : all_low (toggle r k) G.pins ≡ all_low r G.pins = all_low_local (toggle r k) r G.pins p in
        let falls : may_fall N (toggle r k) j ≡ may_fall N r j = ap₂ (λ (x y : Bool). cond G.hold x (not y)) lows fires in
        ap (λ (b : Bool). cond b (may_fall N (toggle r k) j) (may_rise N (toggle r k) j)) same
        ∙ ap₂ (λ (x y : Bool). cond (r j) x y) falls fires

    pub moves_other : moves N goal (toggle r k) j ≡ moves N goal r j
    moves_other =
        by_net_both (λ x y. x ≡ y) N j (xor (toggle r k j) (goal j)) (gate_moves N (toggle r k) j) (xor (r j) (goal j)) (gate_moves N r j)
        (λ x. ap (λ (b : Bool). xor b (goal j)) same) (λ x. gate_same x.0 (omega (arith, x.1, length_stage_gates c code))) (λ x. refl)
