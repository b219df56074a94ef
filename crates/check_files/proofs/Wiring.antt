-- Of a stage with registers: 12, which its gates by themselves tell; 33, 34 and 35; and where they find nothing the stage whose registers are wires.
-- Assumes nothing.
use Rattle.std.specs.Prelude.{Ok, Err}
use Prim.Native.Nat.{ℕ, zero, suc, ◌+◌, ◌-◌, ◌*◌, ◌/◌, ◌≤◌, ◌<◌}
use native.Mathlib.Omega.{arith}
use mathlib.Core.Path.{◌≡◌, refl, sym, ap, ◌∙◌, subst, fun_ext}
use mathlib.Core.Bool.{Bool, true, false, cond}
use mathlib.Core.List.{List, [], ◌∷◌, map}
use lib.ListN.{length, get_or}
use lib.Dec.{ltb}
use Rattle.netlist.specs.declared.Counts.{Counts}
use Rattle.netlist.specs.Reading.{stage_limits, Within}
use Rattle.netlist.specs.Content.{Gate, Stage}
use Rattle.verdict.specs.declared.Verdict.{Verdict}
use Rattle.verdict.specs.FourNumbers.{Finding}
use Rattle.verdict.specs.Graph.{In, Leads, OnLoop}
use Rattle.verdict.specs.Loops as loops
use Rattle.verdict.specs.Loops.{pins_at, reaches_itself, LoopFree, NoLoop}
use Rattle.verdict.specs.Words.{numbers}
use Rattle.verdict.specs.Checks.{check, finding, or_later, first_fault, looped}
use Rattle.verdict.proofs.Reaching.{step_gate, loop_free_no_loop, no_loop_loop_free}
use Rattle.wiring_spec.specs.Parts.{Pipeline, register_count}
use Rattle.wiring_spec.specs.Wiring.{gate_steps, circular}
use Rattle.wiring_spec.specs.Wires.{resolve}
use Rattle.wiring_spec.specs.Passing.{ReachesOn, Nowhere}
use Rattle.wiring_spec.specs.Tables.{PartsLoaded}
use Rattle.wiring_spec.specs.Table.{wiring_checks}
use Rattle.wiring_spec.proofs.Wires.{wired_steps, wired_no_loop}
use Rattle.wiring_spec.proofs.Means.{forward}
use Rattle.circuit.specs.Stage.{net_count, stage_gates, stage_in, largest_stage, StageLoaded}
use Rattle.circuit.proofs.Settling.{length_stage_gates}
use Rattle.circuit_order.proofs.Findings.{passed_on, faulty}
use Rattle.circuit_wire.specs.Wire.{RawLoaded, ResolvedTo, WiredTo, bare, gate_by, stage_by}
use Rattle.circuit_wire.proofs.Stage.{steps_same, cut_loaded, cut_loops, cut_order, wired_stage, wired_loaded}
use Rattle.check_wiring.specs.Loaded.{part_nets, Loaded}
use Rattle.check_files.specs.Held.{RegistersHeld, StageOrdered}
use Rattle.check_files.proofs.Findings.{passed_first, places_pass, places_none, places_alike}

-- 12 finds nothing exactly if no gate reaches itself
module _ (c : Counts) (code : List ℕ) where
  pub free_of : finding (looped (stage_in c code)) ≡ Ok tt → LoopFree c.inputs (stage_gates c code)
  free_of e = places_pass 12 1 (length (stage_gates c code)) (reaches_itself c.inputs (stage_gates c code)) e

  pub of_free : LoopFree c.inputs (stage_gates c code) → finding (looped (stage_in c code)) ≡ Ok tt
  of_free free = places_none 12 1 (length (stage_gates c code)) (reaches_itself c.inputs (stage_gates c code)) free

-- a pipeline is loaded, with an order of its gates
abbrev pub LoadedAs : Counts → List ℕ → List ℕ → List ℕ → List ℕ → Pipeline → Type 0
LoadedAs c code order nets regs p = (l : Loaded c code order nets regs) × (l.pipeline ≡ p)

module _ {c : Counts} {code nets regs : List ℕ} (h : RegistersHeld c code nets regs) where
  abbrev p : Pipeline
  p = h.pipeline

  -- ---- the gates by themselves

  module _ {b : Counts} (is : b ≡ bare c) where
    pub bare_fits : {long : ℕ} → largest_stage ≤ long → Within stage_limits b × (8 * b.gates + 2 * b.outputs ≤ length code) × (8 * b.gates + 2 * b.outputs ≤ long)
    bare_fits {long} room =
        let r = h.raw_loaded in
        subst (λ (b : Counts). Within stage_limits b × (8 * b.gates + 2 * b.outputs ≤ length code) × (8 * b.gates + 2 * b.outputs ≤ long)) (sym is)
        (record { inputs_in = r.within.inputs_in; gates_in_holds = r.within.gates_in_holds; outputs_in_holds = omega arith }, omega (arith, r.room), omega (arith, r.within.gates_in_holds))

    module _ {before cut : List ℕ} (w : WiredTo [] b code before cut (8 * b.gates + 2 * b.outputs)) where
      bare-wired : WiredTo [] (bare c) code before cut (8 * c.gates)
      bare-wired =
          let z : 8 * c.gates + 2 * 0 ≡ 8 * c.gates = omega arith in
          subst (WiredTo [] (bare c) code before cut) z (subst (λ (b : Counts). WiredTo [] b code before cut (8 * b.gates + 2 * b.outputs)) is w)

      pub cut_stage : largest_stage ≤ length before → StageLoaded b cut
      cut_stage room = rw is (cut_loaded p c code h.raw_loaded before cut bare-wired (omega (arith, h.raw_loaded.within.gates_in_holds)))

      -- 12 finds in them what it finds in the stage
      cut_finds : finding (looped (stage_in b cut)) ≡ finding (looped (stage_in c code))
      unfolding stage_gates
      cut_finds =
          ap (λ (b : Counts). finding (looped (stage_in b cut))) is
          ∙ ap (λ (m : ℕ). finding (check 12 1 (0 ∷ []) (numbers 0 m) (λ w. reaches_itself c.inputs (stage_gates c cut)))) (length_stage_gates c cut)
          ∙ places_alike 12 1 c.gates (cut_loops p c code h.raw_loaded before cut bare-wired)
          ∙ ap (λ (m : ℕ). finding (check 12 1 (0 ∷ []) (numbers 0 m) (λ w. reaches_itself c.inputs (stage_gates c code)))) (sym (length_stage_gates c code))

      pub loop-found : {v : Verdict} → Err v ≡ finding (looped (stage_in b cut)) → Err v ≡ first_fault (looped (stage_in c code) ∷ wiring_checks p)
      unfolding first_fault
      loop-found {v} e = sym (faulty _ _ v (sym cut_finds ∙ sym e))

      pub loop_none : Ok tt ≡ finding (looped (stage_in b cut)) → finding (looped (stage_in c code)) ≡ Ok tt
      loop_none none = sym cut_finds ∙ sym none

      -- what 33, 34 and 35 ask
      pub gates_ordered : {order : List ℕ} → StageOrdered b order (stage_in b cut) → LoadedAs c code order nets regs p
      gates_ordered {order} o =
          let t : StageOrdered (bare c) order (stage_in (bare c) cut) = subst (λ (b : Counts). StageOrdered b order (stage_in b cut)) is o in (
            record {
              pipeline = p;
              registers_are = h.registers_are;
              few_elements = h.few_elements;
              raw_loaded = h.raw_loaded;
              parts = h.parts;
              long = h.long;
              regs_room = h.regs_room;
              order_room = omega (arith, t.loaded.room);
              in_order = cut_order p c code h.raw_loaded before cut bare-wired order t.ordered t.same;
            },
            refl,
          )

-- ---- 33, 34 and 35

module _ {c : Counts} {code order nets regs : List ℕ} {p : Pipeline} (l : LoadedAs c code order nets regs p) where
  pub wiring_found : finding (looped (stage_in c code)) ≡ Ok tt → {f : Finding} → f ≡ first_fault (wiring_checks l.0.pipeline)
      → f ≡ first_fault (looped (stage_in c code) ∷ wiring_checks p)
  unfolding first_fault
  wiring_found none e = e ∙ ap (λ (p : Pipeline). first_fault (wiring_checks p)) l.1 ∙ sym (passed_on _ _ none)

  -- they leave the pipeline as it is
  pub loaded_still : {nets' : List ℕ} → LoadedAs c code order nets' regs l.0.pipeline → LoadedAs c code order nets' regs p
  loaded_still m = (m.0, m.1 ∙ l.1)

-- ---- the stage whose registers are wires

module _ {c : Counts} {code order nets regs : List ℕ} {p : Pipeline} (l : LoadedAs c code order nets regs p) where
  pub connect_fits : Within stage_limits c × (8 * c.gates + 2 * c.outputs ≤ length code) × (net_count c + length nets / 8 ≤ 65536)
  connect_fits =
      let r = l.0.raw_loaded in (r.within, omega (arith, r.room), omega (arith, l.0.long, l.0.parts.all_nets_holds, l.0.parts.named.few))

  module _ (found : Ok tt ≡ first_fault (looped (stage_in c code) ∷ wiring_checks p)) where
    raw : RawLoaded p c code
    raw = rw l.1 at l.0.raw_loaded

    both_none : (finding (looped (stage_in c code)) ≡ Ok tt) × (first_fault (wiring_checks p) ≡ Ok tt)
    unfolding first_fault
    both_none = passed_first _ _ (sym found)

    -- a step through gates is one that 12 follows
    gates-free : (x : ℕ) → ¬ (OnLoop (gate_steps p) x)
    gates-free x o =
        let same : gate_steps p ≡ loops.gate_steps c.inputs (stage_gates c code) = fun_ext (steps_same p c code raw) in
        let on : OnLoop (loops.gate_steps c.inputs (stage_gates c code)) x = subst (λ (next : ℕ → List ℕ). OnLoop next x) same o in
        let s = step_gate c.inputs (stage_gates c code) x on.0 on.1 in
        loop_free_no_loop c.inputs (stage_gates c code) (free_of c code both_none.0) s.0 s.1
        (subst (OnLoop (loops.gate_steps c.inputs (stage_gates c code))) s.2 on)

    registers-forward : (k : ℕ) → ¬ (ReachesOn p k k)
    unfolding wiring_checks first_fault
    registers-forward = forward p (places_pass 33 1 (register_count p) (circular p) (passed_first _ _ both_none.1).0)

    module _ {rows code' : List ℕ} (r : ResolvedTo nets rows (net_count c) c.registers (length nets / 8))
        (w : WiredTo rows c code code code' (8 * c.gates + 2 * c.outputs)) where
      parts : PartsLoaded p (net_count c) (part_nets c) nets regs
      parts = rw l.1 at l.0.parts

      resolved : ResolvedTo nets rows (net_count c) (register_count p) (length nets / 8)
      resolved = let e : register_count p ≡ c.registers = ap register_count (sym l.1) ∙ l.0.registers_are in rw e r

      wires-stage : stage_in c code' ≡ stage_by (resolve p) (stage_in c code)
      wires-stage = wired_stage p c code raw (part_nets c) nets regs rows code' parts l.0.long resolved registers-forward w

      pub wires_loaded : StageLoaded c code'
      wires_loaded = wired_loaded p c code raw (part_nets c) nets regs rows code' parts l.0.long resolved registers-forward w

      steps_wired : loops.gate_steps c.inputs (stage_gates c code') ≡ wired_steps p
      unfolding loops.gate_steps
      steps_wired = fun_ext (λ x.
          ap (λ (s : Stage). loops.gate_steps c.inputs s.gates x) wires-stage
          ∙ ap (cond (ltb x (2 * c.inputs)) []) (pins (stage_gates c code) (x - 2 * c.inputs))
          ∙ under (ltb x (2 * c.inputs)) (pins_at (stage_gates c code) (x - 2 * c.inputs))
          ∙ ap (map (resolve p)) (sym (steps_same p c code raw x)))
        where
          pins : (gates : List Gate) (k : ℕ) → pins_at (map (gate_by (resolve p)) gates) k ≡ map (resolve p) (pins_at gates k)
          pins [] k = refl
          pins (g ∷ gates) zero = refl
          pins (g ∷ gates) (suc k) = pins gates k

          under : (b : Bool) (u : List ℕ) → cond b [] (map (resolve p) u) ≡ map (resolve p) (cond b [] u)
          under true u = refl
          under false u = refl

      -- it has no loop, so 12 finds none there
      wires_free : finding (looped (stage_in c code')) ≡ Ok tt
      wires_free = of_free c code' (no_loop_loop_free c.inputs (stage_gates c code')
          (λ g h o. wired_no_loop p gates-free registers-forward (2 * c.inputs + g) (subst (λ (next : ℕ → List ℕ). OnLoop next (2 * c.inputs + g)) steps_wired o)))

      pub wires_found : {f : Finding} → f ≡ finding (looped (stage_in c code')) → f ≡ first_fault (looped (stage_in c code) ∷ wiring_checks p)
      wires_found e = e ∙ wires_free ∙ found

      pub wires_ordered : {code'' : List ℕ} → StageOrdered c code'' (stage_in c code') → StageOrdered c code'' (stage_by (resolve p) (stage_in c code))
      wires_ordered o = record { loaded = o.loaded; ordered = o.ordered; same = o.same ∙ wires-stage }
