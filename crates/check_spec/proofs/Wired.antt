-- A stage whose registers are wires: it has no loop where the stage has none and no register reaches itself; and without registers nothing changes.
-- Assumes nothing.
use Prim.Native.Nat.{ℕ, zero, suc, ◌-◌, ◌*◌}
use mathlib.Core.Path.{◌≡◌, refl, ap, ap₂, ◌∙◌, sym, subst, fun_ext}
use mathlib.Core.Bool.{Bool, true, false, cond}
use mathlib.Core.List.{List, [], ◌∷◌, map}
use lib.ListN.{get_or}
use lib.Dec.{ltb}
use Rattle.runs.specs.Net.{nets}
use Rattle.runs.proofs.Test.{not-true}
use Rattle.netlist.specs.Content.{Coded}
use Rattle.verdict.specs.Paths.{OnLoop}
use Rattle.verdict.proofs.Steps.{found_loop}
use Rattle.wiring_spec.specs.Wiring.{gate_steps, circular}
use Rattle.wiring_spec.specs.Wires.{resolve}
use Rattle.wiring_spec.specs.Passing.{Nowhere}
use Rattle.wiring_spec.proofs.Nets.{steps_are}
use Rattle.wiring_spec.proofs.Wires.{wired_steps, wired_no_loop, resolve_none}
use Rattle.wiring_spec.proofs.Means.{forward}
use Rattle.check_spec.specs.Content.{Content, pipeline_of, wired}
use Rattle.check_spec.specs.Rows.{no_gate, net_of, feeding, reaches_itself}
use Rattle.check_spec.specs.Demands.{LoopFree}
use Rattle.check_spec.proofs.Loops.{no_loop}

module _ (c : Content) where
  -- the steps of 12 are those through gates
  pub steps : feeding (net_of c) ≡ gate_steps (pipeline_of c)
  steps = fun_ext (λ x. sym (steps_are (pipeline_of c) x ∙ ap (cond (ltb x (2 * c.inputs)) []) (at c.gates (x - 2 * c.inputs))))
    where
      at : (gates : List Coded) (k : ℕ) → get_or (map (λ (g : Coded). g.operands) gates) k [] ≡ (get_or gates k no_gate).operands
      at [] k = refl
      at (g ∷ gates) zero = refl
      at (g ∷ gates) (suc k) = at gates k

  wired-steps : feeding (net_of (wired c)) ≡ wired_steps (pipeline_of c)
  unfolding wired
  wired-steps = fun_ext (λ x. under (ltb x (2 * c.inputs)) _ _ (at c.gates (x - 2 * c.inputs)) ∙ ap (λ (next : ℕ → List ℕ). map (resolve (pipeline_of c)) (next x)) steps)
    where
      at : (gates : List Coded) (k : ℕ) → (get_or (map (λ (g : Coded). record { code = g.code; operands = map (resolve (pipeline_of c)) g.operands }) gates) k no_gate).operands
          ≡ map (resolve (pipeline_of c)) (get_or gates k no_gate).operands
      at [] k = refl
      at (g ∷ gates) zero = refl
      at (g ∷ gates) (suc k) = at gates k

      under : (b : Bool) (u v : List ℕ) → u ≡ map (resolve (pipeline_of c)) v → cond b [] u ≡ map (resolve (pipeline_of c)) (cond b [] v)
      under true u v e = refl
      under false u v e = e

  pub wired_free : LoopFree (net_of c) → Nowhere (pipeline_of c) (circular (pipeline_of c)) → LoopFree (net_of (wired c))
  unfolding reaches_itself
  wired_free free none net g = not-true _ (λ e.
      let l = found_loop (feeding (net_of (wired c))) (nets (net_of (wired c))) net e in
      wired_no_loop (pipeline_of c) gates (forward (pipeline_of c) none) net (subst (λ (next : ℕ → List ℕ). OnLoop next net) wired-steps l))
    where
      gates : (x : ℕ) → ¬ (OnLoop (gate_steps (pipeline_of c)) x)
      gates x l = let k = subst (λ (next : ℕ → List ℕ). OnLoop next x) (sym steps) l in no_loop c free x k.0 k.1 k

  pub wired_none : c.parts ≡ [] → wired c ≡ c
  unfolding wired
  wired_none none = λ i. record {
    inputs = c.inputs;
    gates = same _ (λ (g : Coded). λ j. record { code = g.code; operands = same net own g.operands j }) c.gates i;
    outputs = same _ (same net own) c.outputs i;
    care = c.care;
    parts = sym none i;
  }
    where
      net : ℕ → ℕ
      net = resolve (pipeline_of c)

      own : (x : ℕ) → resolve (pipeline_of c) x ≡ x
      own x = resolve_none (pipeline_of c) none x

      same : {A : Type 0} (f : A → A) → ((x : A) → f x ≡ x) → (xs : List A) → map f xs ≡ xs
      same f h [] = refl
      same f h (x ∷ xs) = ap₂ ◌∷◌ (h x) (same f h xs)

-- a stage without registers is what runs see
pub plain_stage : {raw s : Content} → raw ≡ s → s.parts ≡ [] → wired raw ≡ s
plain_stage {s = s} e none = ap wired e ∙ wired_none s none
