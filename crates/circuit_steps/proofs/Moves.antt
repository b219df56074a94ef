-- Which nets may switch, in the flat form. Assumes nothing.
use Prim.Native.Nat.{ℕ, zero, suc, ◌+◌, ◌-◌, ◌*◌, ◌≤◌, ◌<◌}
use native.Mathlib.Omega.{arith}
use mathlib.Core.Path.{◌≡◌, refl, sym, ap, ap₂, ◌∙◌}
use mathlib.Core.Bool.{Bool, true, false, not, cond, ◌&&◌, ◌||◌}
use mathlib.Core.List.{List}
use lib.ListN.{get_or}
use lib.Dec.{eqb, ltb}
use borrow.Author.Tests.{lt-ltb, le-ltb, ne_eqb}
use Rattle.gates.specs.Cell.{bit}
use Rattle.runs.specs.Row.{only}
use Rattle.runs.specs.Net.{Net, may_rise, may_fall}
use Rattle.runs.proofs.Net.{by_net_rail, by_net_gate}
use Rattle.netlist.specs.declared.Counts.{Counts}
use Rattle.verdict.specs.Rows.{high, is_set}
use Rattle.verdict.specs.Nets.{no_gate, driver, set_in}
use Rattle.verdict.specs.Falls.{stays, level_falling}
use Rattle.verdict.proofs.Bridge.{high_bit}
use Rattle.verdict.proofs.Falls.{stays_rule}
use Rattle.check_spec.specs.Lists.{xor}
use Rattle.circuit.specs.Stage.{net_count, gate_in, stage_gates, stage_in, StageLoaded}
use Rattle.circuit.specs.Rows.{RowFor, nets_in, level_part}
use Rattle.circuit.proofs.Pins.{nets_at}
use Rattle.circuit.proofs.Tabulate.{get_d_tabulate}
use Rattle.circuit.proofs.Settling.{length_stage_gates}
use Rattle.circuit.proofs.Falling.{level_at}
use Rattle.circuit_steps.specs.Moves.{gate_moves, moves, loaded_net, row_in}

-- ---- a rail

unequal : (a b : ℕ) → a ≤ 1 → b ≤ 1 → not (eqb a b) ≡ xor (ltb 0 a) (ltb 0 b)
unequal zero zero h l = refl
unequal zero (suc zero) h l = refl
unequal (suc zero) zero h l = refl
unequal (suc zero) (suc zero) h l = refl
unequal zero (suc (suc b)) h l = absurd (omega arith)
unequal (suc zero) (suc (suc b)) h l = absurd (omega arith)
unequal (suc (suc a)) b h l = absurd (omega arith)

module _ (c : Counts) (code goal row : List ℕ) (ga : RowFor c goal) (ro : RowFor c row) (net : ℕ) (h : net < net_count c) where
  abbrev N : Net
  N = loaded_net c code

  pub rail_moves : net < 2 * c.inputs → not (eqb (get_or row net 0) (get_or goal net 0)) ≡ moves N (row_in c goal) (row_in c row) net
  rail_moves l =
      unequal (get_or row net 0) (get_or goal net 0) (ro.bit net (omega arith)) (ga.bit net (omega arith))
      ∙ ap₂ (λ (a b : ℕ). xor (ltb 0 a) (ltb 0 b)) (sym (nets_at c row ro net (omega arith))) (sym (nets_at c goal ga net (omega arith)))
      ∙ sym (by_net_rail N net (xor (row_in c row net) (row_in c goal net)) (gate_moves N (row_in c row) net) l)

  pub gate_moves_holds : 2 * c.inputs ≤ net → gate_moves N (row_in c row) (2 * c.inputs + (net - 2 * c.inputs)) ≡ moves N (row_in c goal) (row_in c row) net
  gate_moves_holds l =
      let e : 2 * c.inputs + (net - 2 * c.inputs) ≡ net = omega arith in
      ap (gate_moves N (row_in c row)) e
      ∙ sym (by_net_gate N net (xor (row_in c row net) (row_in c goal net)) (gate_moves N (row_in c row) net) (omega arith, omega (arith, length_stage_gates c code)))

-- ---- a gate

module _ (c : Counts) (code row : List ℕ) (loaded : StageLoaded c code) (ro : RowFor c row) (k : ℕ) (h : k < c.gates) where
  abbrev G : Net
  G = loaded_net c code

  abbrev at : ℕ
  at = 2 * c.inputs + k

  gate-is : driver (stage_in c code) at ≡ gate_in code k
  unfolding stage_gates
  gate-is = let e : at - 2 * c.inputs ≡ k = omega arith in rw e (get_d_tabulate (gate_in code) c.gates k no_gate h)

  pub low_moves : get_or row at 0 ≡ 0 → (x : ℕ) → x ≡ is_set (nets_in c row) (gate_in code k) → ltb 0 x ≡ gate_moves G (row_in c row) at
  unfolding is_set
  low_moves z x is =
      let low : row_in c row at ≡ false = le-ltb 0 (get_or (nets_in c row) at 0) (omega (arith, nets_at c row ro at (omega arith))) in
      ap (λ (y : ℕ). ltb 0 y) is ∙ high_bit (set_in (row_in c row) (gate_in code k)) ∙ ap (set_in (row_in c row)) (sym gate-is)
      ∙ sym (ap (λ (b : Bool). cond b (may_fall G (row_in c row) at) (may_rise G (row_in c row) at)) low)

  zero_bit : (b : Bool) → eqb (bit (not b)) 0 ≡ b
  zero_bit true = refl
  zero_bit false = refl

  pub high_moves : ¬ (get_or row at 0 ≡ 0) → (x : ℕ) → x ≡ level_falling (only c.gates) (stage_gates c code) (level_part c row) (nets_in c row) k
      → eqb x 0 ≡ gate_moves G (row_in c row) at
  unfolding stage_gates
  high_moves d x is =
      let was : high (level_part c row) k ≡ true = lt-ltb 0 (get_or (level_part c row) k 0) (omega (arith, level_at c code row loaded ro k h 0, d)) in
      let up : row_in c row at ≡ true = lt-ltb 0 (get_or (nets_in c row) at 0) (omega (arith, nets_at c row ro at (omega arith), d)) in
      let e : at - 2 * c.inputs ≡ k = omega arith in
      let falls : stays (nets_in c row) (get_or (stage_gates c code) k no_gate) ≡ not (may_fall G (row_in c row) at) =
      ap (λ (i : ℕ). stays (nets_in c row) (get_or (stage_gates c code) i no_gate)) (sym e) ∙ stays_rule (stage_in c code) (nets_in c row) at in
      ap (λ (y : ℕ). eqb y 0) (is ∙ ap (λ (b : Bool). bit (b && (only c.gates k || stays (nets_in c row) (get_or (stage_gates c code) k no_gate)))) was
      ∙ ap (λ (b : Bool). bit (b || stays (nets_in c row) (get_or (stage_gates c code) k no_gate))) (ne_eqb k c.gates (λ q. omega arith))
      ∙ ap bit falls)
      ∙ zero_bit (may_fall G (row_in c row) at)
      ∙ sym (ap (λ (b : Bool). cond b (may_fall G (row_in c row) at) (may_rise G (row_in c row) at)) up)
