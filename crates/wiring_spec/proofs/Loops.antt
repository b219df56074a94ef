-- Where 12 finds no loop of gates and 33 no register that reaches itself, no data net leads back to itself.
-- Assumes nothing.
use Prim.Native.Nat.{ℕ}
use mathlib.Core.Path.{◌≡◌, refl, subst}
use mathlib.Core.Bool.{true}
use mathlib.Core.Logic.{◌⊎◌, inl, inr}
use mathlib.Core.List.{List, []}
use borrow.Author.Tests.{eq-eqb, eqb-true}
use Rattle.verdict.specs.Paths.{In, Leads, here, onward, OnLoop}
use Rattle.verdict.proofs.Graph.{leads_trans}
use Rattle.wiring_spec.specs.Parts.{Pipeline, Driver, input, gate, rail, acknowledge, completion, nothing, driver_of, data_of}
use Rattle.wiring_spec.specs.Wiring.{through_gate, gate_steps, is_rail_of}
use Rattle.wiring_spec.specs.Passing.{ReachesOn, straight, through}
use Rattle.wiring_spec.proofs.Nets.{never}

-- backwards through a gate or a register: each rail of a register comes from its data
unfoldable pub through_data : Pipeline → Driver → List ℕ
through_data p input = []
through_data p (gate pins) = pins
through_data p (rail k b) = data_of p k
through_data p (acknowledge k) = []
through_data p (completion pins) = []
through_data p nothing = []

abbrev pub data_steps : Pipeline → ℕ → List ℕ
data_steps p x = through_data p (driver_of p x)

-- a step through a gate is one through data
pub gate_data : (p : Pipeline) (d : Driver) (v : ℕ) → In v (through_gate d) → In v (through_data p d)
unfolding through_data through_gate
gate_data p input v i = absurd i
gate_data p (gate pins) v i = i
gate_data p (rail k b) v i = absurd i
gate_data p (acknowledge k) v i = absurd i
gate_data p (completion pins) v i = absurd i
gate_data p nothing v i = absurd i

-- a step backwards goes through a gate or from a rail of a register
step_split : (p : Pipeline) (d : Driver) (v : ℕ) → In v (through_data p d) → In v (through_gate d) ⊎ ((k : ℕ) × (is_rail_of k d ≡ true))
unfolding through_data through_gate is_rail_of
step_split p input v i = absurd i
step_split p (gate pins) v i = inl i
step_split p (rail k b) v i = inr (k, eq-eqb k k refl)
step_split p (acknowledge k) v i = absurd i
step_split p (completion pins) v i = absurd i
step_split p nothing v i = absurd i

-- the steps from a rail of register k are its data
rail-steps : (p : Pipeline) (k : ℕ) (d : Driver) (v : ℕ) → is_rail_of k d ≡ true → In v (through_data p d) → In v (data_of p k)
unfolding through_data is_rail_of
rail-steps p k input v e i = absurd i
rail-steps p k (gate pins) v e i = absurd (never e)
rail-steps p k (rail j b) v e i = subst (λ (j : ℕ). In v (data_of p j)) (eqb-true j k e) i
rail-steps p k (acknowledge j) v e i = absurd i
rail-steps p k (completion pins) v e i = absurd i
rail-steps p k nothing v e i = absurd i

module _ (p : Pipeline) where
  -- a net comes through gates from a rail of register j
  abbrev Straight : ℕ → ℕ → Type 0
  Straight j x = (y : ℕ) × (is_rail_of j (driver_of p y) ≡ true) × Leads (gate_steps p) y x

  -- or from one of a register that register k reaches
  abbrev Comes : ℕ → ℕ → Type 0
  Comes k x = Straight k x ⊎ ((j : ℕ) × Straight j x × ReachesOn p k j)

  -- .. so a register with this net at its data does
  at_data : (k t x : ℕ) → In x (data_of p t) → Comes k x → ReachesOn p k t
  at_data k t x i (inl g) = straight (x, i, g.0, g.1, g.2)
  at_data k t x i (inr (j, g, r)) = through r (x, i, g.0, g.1, g.2)

  comes : (k y : ℕ) → is_rail_of k (driver_of p y) ≡ true → {x : ℕ} → Leads (data_steps p) y x → Comes k x
  comes k y e here = inl (y, e, here)
  comes k y e (onward {x = x} {z = z} i l) = go (step_split p (driver_of p x) z i) (comes k y e l)
    where
      go : In z (gate_steps p x) ⊎ ((j : ℕ) × (is_rail_of j (driver_of p x) ≡ true)) → Comes k z → Comes k x
      go (inl g) (inl c) = inl (c.0, c.1, onward g c.2)
      go (inl g) (inr (j, c, r)) = inr (j, (c.0, c.1, onward g c.2), r)
      go (inr (j, q)) c = inr (j, (x, q, here), at_data k j z (rail-steps p j (driver_of p x) z q i) c)

  -- a rail on a loop belongs to a register that reaches itself
  rail-loop : (k x : ℕ) → is_rail_of k (driver_of p x) ≡ true → OnLoop (data_steps p) x → ReachesOn p k k
  rail-loop k x e l = at_data k k l.0 (rail-steps p k (driver_of p x) l.0 e l.1) (comes k x e l.2)

  -- a path goes through gates only, or there is a rail of a register on it
  record ThroughRail (y x : ℕ) : Type 0 where
    at : ℕ
    register : ℕ
    is_rail : is_rail_of register (driver_of p at) ≡ true
    to : Leads (data_steps p) at x
    after : ℕ
    step : In after (data_steps p at)
    on : Leads (data_steps p) y after

  path_split : (y : ℕ) {x : ℕ} → Leads (data_steps p) y x → Leads (gate_steps p) y x ⊎ ThroughRail y x
  path_split y here = inl here
  path_split y (onward {x = x} {z = z} i q) = go (step_split p (driver_of p x) z i) (path_split y q)
    where
      go : In z (gate_steps p x) ⊎ ((k : ℕ) × (is_rail_of k (driver_of p x) ≡ true)) → Leads (gate_steps p) y z ⊎ ThroughRail y z → Leads (gate_steps p) y x ⊎ ThroughRail y x
      go (inr r) s = inr (record { at = x; register = r.0; is_rail = r.1; to = here; after = z; step = i; on = q })
      go (inl g) (inl l) = inl (onward g l)
      go (inl g) (inr t) = inr (record { at = t.at; register = t.register; is_rail = t.is_rail; to = onward i t.to; after = t.after; step = t.step; on = t.on })

  module _ (gates : (x : ℕ) → ¬ (OnLoop (gate_steps p) x)) (forward : (k : ℕ) → ¬ (ReachesOn p k k)) where
    pub no_data_loop : (x : ℕ) → ¬ (OnLoop (data_steps p) x)
    no_data_loop x l = go (step_split p (driver_of p x) l.0 l.1) (path_split x l.2)
      where
        go : In l.0 (gate_steps p x) ⊎ ((k : ℕ) × (is_rail_of k (driver_of p x) ≡ true)) → Leads (gate_steps p) x l.0 ⊎ ThroughRail x l.0 → ⊥
        go (inr r) s = forward r.0 (rail-loop r.0 x r.1 l)
        go (inl g) (inl q) = gates x (l.0, g, q)
        go (inl g) (inr t) =
            forward t.register (rail-loop t.register t.at t.is_rail (t.after, t.step, leads_trans (data_steps p) x t.at t.on (onward l.1 t.to)))
