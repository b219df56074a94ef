-- Registers as wires: where 12 and 33 find no loop, the wired stage has none, and resolving a net ends at a rail of an input or at a gate.
-- Assumes nothing.
use Prim.Native.Nat.{ℕ, zero, suc, ◌+◌, ◌*◌, ◌≤◌, ◌<◌}
use native.Mathlib.Omega.{arith}
use mathlib.Core.Path.{◌≡◌, refl, sym, ap, ◌∙◌, subst}
use mathlib.Core.Bool.{Bool, true}
use mathlib.Core.List.{List, [], ◌∷◌, map}
use mathlib.Core.Logic.{inl, inr}
use lib.ListN.{length}
use borrow.Author.Tests.{eq-eqb, eqb-true}
use Rattle.verdict.specs.Paths.{In, Leads, here, onward, OnLoop}
use Rattle.verdict.proofs.Graph.{leads_trans, rank-≤}
use Rattle.wiring_spec.specs.Parts.{Pipeline, Driver, input, gate, rail, acknowledge, completion, nothing, driver_of, registers_of, data_of, register_count}
use Rattle.wiring_spec.specs.Wiring.{gate_steps, is_rail_of, sources}
use Rattle.wiring_spec.specs.Passing.{ReachesOn}
use Rattle.wiring_spec.specs.Wires.{wire_of, times, resolve}
use Rattle.wiring_spec.specs.Named.{carries_data, IsData, Named}
use Rattle.wiring_spec.proofs.Nets.{never, Stands, stands, rail_inside, data_in}
use Rattle.wiring_spec.proofs.Passing.{source_in, step_inside}
use Rattle.wiring_spec.proofs.Levels.{rank, source_falls, register_rank}
use Rattle.wiring_spec.proofs.Loops.{through_data, data_steps, gate_data, no_data_loop}

module _ (p : Pipeline) where
  abbrev wire : ℕ → ℕ
  wire x = wire_of p x (driver_of p x)

  -- a net is its own wire, or it is a rail of a register and its wire is at that register's data
  data Wired (x : ℕ) (d : Driver) : Type 0 where
    same : wire_of p x d ≡ x → ((k : ℕ) → is_rail_of k d ≡ true → ⊥) → Wired x d
    other : (k : ℕ) → k < register_count p → is_rail_of k d ≡ true → In (wire_of p x d) (data_of p k) → In (wire_of p x d) (through_data p d) → Wired x d

  wired : (x : ℕ) → Wired x (driver_of p x)
  unfolding wire_of through_data is_rail_of
  wired x = go (driver_of p x) (stands p x)
    where
      go : (d : Driver) → Stands p d x → Wired x d
      go input s = same refl (λ k e. never e)
      go (gate pins) s = same refl (λ k e. never e)
      go (rail k b) s = other k s.0 (eq-eqb k k refl) (data_in p k b s.0) (data_in p k b s.0)
      go (acknowledge k) s = same refl (λ k e. never e)
      go (completion pins) s = same refl (λ k e. never e)
      go nothing s = same refl (λ k e. never e)

  times-leads : (k x : ℕ) → Leads (data_steps p) (times k wire x) x
  unfolding times
  times-leads zero x = here
  times-leads (suc k) x = leads_trans (data_steps p) (wire x) (times k wire (wire x)) (go (wired x)) (times-leads k (wire x))
    where
      go : Wired x (driver_of p x) → Leads (data_steps p) (wire x) x
      go (same e n) = subst (λ (y : ℕ). Leads (data_steps p) y x) (sym e) here
      go (other k h e i s) = onward s here

  -- ---- the stage without registers has no loop

  -- the steps through gates whose pins are resolved
  abbrev pub wired_steps : ℕ → List ℕ
  wired_steps x = map (resolve p) (gate_steps p x)

  in_map : (f : ℕ → ℕ) (xs : List ℕ) (y : ℕ) → In y (map f xs) → (u : ℕ) × In u xs × (y ≡ f u)
  in_map f [] y i = absurd i
  in_map f (x ∷ xs) y (inl e) = (x, inl refl, e)
  in_map f (x ∷ xs) y (inr i) = let r = in_map f xs y i in (r.0, inr r.1, r.2)

  -- such a step is one through a gate, and on along wires
  wired-step : (x z : ℕ) → In z (wired_steps x) → (u : ℕ) × In u (data_steps p x) × Leads (data_steps p) z u
  unfolding resolve
  wired-step x z i =
      let r = in_map (resolve p) (gate_steps p x) z i in
      (r.0, gate_data p (driver_of p x) r.0 r.1, subst (λ (y : ℕ). Leads (data_steps p) y r.0) (sym r.2) (times-leads (register_count p) r.0))

  wired-leads : (y : ℕ) {x : ℕ} → Leads wired_steps y x → Leads (data_steps p) y x
  wired-leads y here = here
  wired-leads y (onward {x = x} {z = z} i l) = let s = wired-step x z i in onward s.1 (leads_trans (data_steps p) z y s.2 (wired-leads y l))

  -- no loop of gates and no register that reaches itself: the wired stage has no loop
  pub wired_no_loop : ((x : ℕ) → ¬ (OnLoop (gate_steps p) x)) → ((k : ℕ) → ¬ (ReachesOn p k k)) → (x : ℕ) → ¬ (OnLoop wired_steps x)
  wired_no_loop gates forward x l =
      let s = wired-step x l.0 l.1 in
      no_data_loop p gates forward x (s.0, s.1, leads_trans (data_steps p) l.0 x s.2 (wired-leads x l.2))

  -- ---- resolving ends

  module _ (forward : (k : ℕ) → ¬ (ReachesOn p k k)) where
    rank_of : Driver → ℕ
    rank_of input = 0
    rank_of (gate pins) = 0
    rank_of (rail k b) = rank p forward k
    rank_of (acknowledge k) = 0
    rank_of (completion pins) = 0
    rank_of nothing = 0

    rank_rail : (k : ℕ) (d : Driver) → is_rail_of k d ≡ true → rank_of d ≡ rank p forward k
    unfolding rank_of is_rail_of
    rank_rail k input e = absurd (never e)
    rank_rail k (gate pins) e = absurd (never e)
    rank_rail k (rail j b) e = ap (rank p forward) (eqb-true j k e)
    rank_rail k (acknowledge j) e = absurd (never e)
    rank_rail k (completion pins) e = absurd (never e)
    rank_rail k nothing e = absurd (never e)

    -- a driver ranks below what its register, if it has one, ranks below
    rank_below : (bound : ℕ) → 1 ≤ bound → (d : Driver) → ((j : ℕ) → is_rail_of j d ≡ true → rank p forward j < bound) → rank_of d < bound
    unfolding rank_of is_rail_of
    rank_below bound h input f = h
    rank_below bound h (gate pins) f = h
    rank_below bound h (rail j b) f = f j (eq-eqb j j refl)
    rank_below bound h (acknowledge j) f = h
    rank_below bound h (completion pins) f = h
    rank_below bound h nothing f = h

    wire_ranks : (fuel x : ℕ) → rank_of (driver_of p x) ≤ suc fuel → rank_of (driver_of p (wire x)) ≤ fuel
    wire_ranks fuel x h = go (wired x)
      where
        go : Wired x (driver_of p x) → rank_of (driver_of p (wire x)) ≤ fuel
        go (same e n) =
            let r = rank_below 1 (omega arith) (driver_of p (wire x)) (λ j q. absurd (n j (sym (ap (λ (y : ℕ). is_rail_of j (driver_of p y)) e) ∙ q))) in omega arith
        go (other k l e i s) =
            let r = rank_below (rank p forward k) (register_rank p forward k l) (driver_of p (wire x)) (λ j q. source_falls p forward j k (source_in p j k (wire x, i, wire x, q, here))) in
            omega (arith, rank_rail k (driver_of p x) e)

    -- no rail is left after so many wires
    ends : (fuel x : ℕ) → rank_of (driver_of p x) ≤ fuel → (k : ℕ) → is_rail_of k (driver_of p (times fuel wire x)) ≡ true → ⊥
    unfolding times
    ends zero x h k e = omega (arith, rank_rail k (driver_of p x) e, register_rank p forward k (rail_inside p k x e))
    ends (suc fuel) x h k e = ends fuel (wire x) (wire_ranks fuel x h) k e

    -- .. so that one wire more changes nothing
    pub resolve_ends : (x k : ℕ) → is_rail_of k (driver_of p (resolve p x)) ≡ true → ⊥
    unfolding resolve
    resolve_ends x =
        let m = register_count p in
        let few = rank_below (suc m) (omega arith) (driver_of p x) (λ j q. omega (arith, rank-≤ (sources p) m (step_inside p) j)) in
        ends m x (omega arith)

    pub resolve_wire : (x : ℕ) → resolve p x ≡ resolve p (wire x)
    unfolding resolve times
    resolve_wire x = sym (last (register_count p) x ∙ still (wired (resolve p x)))
      where
        last : (k x : ℕ) → times k wire (wire x) ≡ wire (times k wire x)
        last zero x = refl
        last (suc k) x = last k (wire x)

        still : Wired (resolve p x) (driver_of p (resolve p x)) → wire (resolve p x) ≡ resolve p x
        still (same e n) = e
        still (other k h e i s) = absurd (resolve_ends x k e)

  module _ (named : Named p) (forward : (k : ℕ) → ¬ (ReachesOn p k k)) where
    times-data : (k x : ℕ) → IsData p x → IsData p (times k wire x)
    unfolding times
    times-data zero x c = c
    times-data (suc k) x c = times-data k (wire x) (go (wired x))
      where
        go : Wired x (driver_of p x) → IsData p (wire x)
        go (same e n) = ap (λ (y : ℕ). carries_data (driver_of p y)) e ∙ c
        go (other j l e i s) = named.rail j (wire x) i

    -- a data net is resolved to a rail of an input or to a gate
    pub resolve_inside : (x : ℕ) → IsData p x → resolve p x < 2 * p.inputs + length p.gates
    unfolding resolve carries_data is_rail_of
    resolve_inside x c = go (driver_of p (resolve p x)) (stands p (resolve p x)) (times-data (register_count p) x c) (resolve_ends forward x)
      where
        go : (d : Driver) → Stands p d (resolve p x) → carries_data d ≡ true → ((k : ℕ) → is_rail_of k d ≡ true → ⊥) → resolve p x < 2 * p.inputs + length p.gates
        go input s c n = omega arith
        go (gate pins) s c n = omega (arith, s.1, s.2)
        go (rail k b) s c n = absurd (n k (eq-eqb k k refl))
        go (acknowledge k) s c n = absurd (never c)
        go (completion pins) s c n = absurd (never c)
        go nothing s c n = absurd (never c)

  -- ---- a net that is no rail of a register

  pub resolve_own : (x : ℕ) → ((k : ℕ) (b : Bool) → ¬ (driver_of p x ≡ rail k b)) → resolve p x ≡ x
  unfolding resolve times wire_of
  resolve_own x none = stays (register_count p)
    where
      here : wire x ≡ x
      here = go (driver_of p x) none
        where
          go : (d : Driver) → ((k : ℕ) (b : Bool) → ¬ (d ≡ rail k b)) → wire_of p x d ≡ x
          go input n = refl
          go (gate pins) n = refl
          go (rail k b) n = absurd (n k b refl)
          go (acknowledge k) n = refl
          go (completion pins) n = refl
          go nothing n = refl

      stays : (k : ℕ) → times k wire x ≡ x
      stays zero = refl
      stays (suc k) = ap (times k wire) here ∙ stays k

  -- ---- without registers nothing changes

  pub resolve_none : p.parts ≡ [] → (x : ℕ) → resolve p x ≡ x
  unfolding resolve register_count registers_of times
  resolve_none none x = rw none
