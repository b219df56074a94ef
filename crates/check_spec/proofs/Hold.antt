-- With hold everywhere the code's checks of the fall find nothing where those of the rise do.
-- Assumes nothing.
use Rattle.std.specs.Prelude.{Ok}
use Prim.Native.Nat.{ℕ, suc, ◌+◌, ◌-◌, ◌*◌, ◌≤◌, ◌<◌}
use native.Mathlib.Omega.{arith}
use mathlib.Core.Path.{◌≡◌, refl, sym, ap, ap₂, ◌∙◌, subst}
use mathlib.Core.List.{List, [], ◌∷◌, map, map-map, map-id}
use lib.ListN.{length, get_or, length-map}
use Rattle.runs.specs.Theory.{AllHold}
use Rattle.netlist.specs.Content.{Gate, Pair, Stage, Reference, gate_of}
use Rattle.netlist.specs.Writing.{coded_gate, pair_operands}
use Rattle.netlist.proofs.Stages.{cell_of_holds}
use Rattle.verdict.specs.declared.WordOrder.{WordOrder}
use Rattle.verdict.specs.Loops as loops
use Rattle.verdict.specs.Nets.{no_gate}
use Rattle.verdict.specs.Nets as code
use Rattle.verdict.specs.Checks.{first_fault, rise_sweeps, fall_sweeps}
use Rattle.check_spec.specs.Rows.{net_of, reaches_itself}
use Rattle.check_spec.specs.Demands.{LoopFree}
use Rattle.check_spec.specs.Loaded.{from_stage, from_reference, pair_of, stage_view, reference_view}
use Rattle.check_spec.proofs.View.{net_view}
use Rattle.check_spec.proofs.Bridge.{loop_alike, hold_passes}

-- ---- what is loaded, seen again

module _ (s : Stage) (cells : (k : ℕ) → k < length s.gates → (1 ≤ (get_or s.gates k no_gate).cell) × ((get_or s.gates k no_gate).cell ≤ 27)) where
  stage_again : stage_view (from_stage s) ≡ s
  stage_again = ap₂ (λ (gates : List Gate) (outputs : List Pair). record { inputs = s.inputs; gates = gates; outputs = outputs; care = s.care })
      (again s.gates cells) (map-map pair_of pair_operands s.outputs ∙ map-id s.outputs)
    where
      again : (gs : List Gate) → ((k : ℕ) → k < length gs → (1 ≤ (get_or gs k no_gate).cell) × ((get_or gs k no_gate).cell ≤ 27)) → map gate_of (map coded_gate gs) ≡ gs
      again [] h = refl
      again (g ∷ gs) h = ap₂ (λ (x : Gate) (l : List Gate). x ∷ l) (cell_of_holds g.hold g.cell g.pins (h 0 (omega arith)).0 (h 0 (omega arith)).1) (again gs (λ k l. h (suc k) (omega arith)))

  pub fall_passes : (order : WordOrder) (r : Reference) → loops.LoopFree s.inputs s.gates → length s.outputs ≤ length r.outputs → AllHold (code.net_of s)
      → first_fault (rise_sweeps order s r) ≡ Ok tt → first_fault (fall_sweeps order s r) ≡ Ok tt
  fall_passes order r free few hold e =
      let c = from_stage s in
      let q = from_reference r in
      let same : reference_view q ≡ r = ap (λ (o : List ℕ). record { inputs = r.inputs; gates = r.gates; outputs = o }) (map-map (λ (vs : List ℕ). get_or vs 0 0) (λ (v : ℕ). v ∷ []) r.outputs ∙ map-id r.outputs) in
      let loop_free : LoopFree (net_of c) = λ net g.
      let k = net - 2 * s.inputs in
      let long = length-map s.gates coded_gate in
      let z : 2 * s.inputs + k ≡ net = omega (arith, g.0) in
      ap (reaches_itself (net_of c)) (sym z) ∙ loop_alike c k (omega (arith, g.0, g.1)) ∙ ap (λ (x : Stage). loops.reaches_itself x.inputs x.gates k) stage_again ∙ free k (omega (arith, g.0, g.1, long)) in
      let held : AllHold (net_of c) = subst AllHold (net_view c) (subst (λ (x : Stage). AllHold (code.net_of x)) (sym stage_again) hold) in
      let passes = hold_passes order c q loop_free (omega (arith, length-map s.outputs pair_operands, length-map r.outputs (λ (v : ℕ). v ∷ []))) held in
      rw (stage_again, same) at passes e
