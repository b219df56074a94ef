-- Every gate of a stage has hold exactly if each of its flat form has.
-- Assumes nothing.
use Prim.Native.Nat.{ℕ, ◌<◌}
use native.Mathlib.Omega.{arith}
use mathlib.Core.Path.{◌≡◌, sym, ap, ◌∙◌}
use mathlib.Core.Bool.{true}
use mathlib.Core.List.{List}
use Rattle.netlist.specs.declared.Counts.{Counts}
use Rattle.netlist.specs.Content.{Gate}
use Rattle.lane_screen.specs.Hold.{WithHold}
use Rattle.circuit.specs.Stage.{gate_in, stage_in}
use Rattle.circuit.proofs.Settling.{length_stage_gates}
use Rattle.lane_settle.proofs.Pins.{gate_at_holds}

module _ (c : Counts) (code : List ℕ) where
  pub hold_all : ((k : ℕ) → k < c.gates → (gate_in code k).hold ≡ true) → WithHold (stage_in c code)
  hold_all all k h =
      let b : k < c.gates = omega (arith, length_stage_gates c code) in
      ap (λ (g : Gate). g.hold) (gate_at_holds c code k b) ∙ all k b

  pub all_hold : WithHold (stage_in c code) → (k : ℕ) → k < c.gates → (gate_in code k).hold ≡ true
  all_hold all k h = sym (ap (λ (g : Gate). g.hold) (gate_at_holds c code k h)) ∙ all k (omega (arith, length_stage_gates c code))
