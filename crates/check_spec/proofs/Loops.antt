-- The test of 12 means "reaches itself through pins", and a stage in which no gate does is one of the theory of runs.
-- Assumes nothing.
use Prim.Native.Nat.{ℕ, suc, ◌-◌, ◌≤◌, ◌<◌}
use native.Mathlib.Omega.{arith}
use native.Mathlib.Decide.{dec_lt}
use mathlib.Core.Path.{◌≡◌, refl, sym, ap, ◌∙◌, subst}
use mathlib.Core.Logic.{inl, inr}
use mathlib.Core.Bool.{Bool, true, false, and-true}
use mathlib.Core.List.{List, [], ◌∷◌, map}
use lib.ListN.{get_or, get_or-eq_default}
use lib.Dec.{eqb}
use Rattle.gates.specs.Expression.{holds}
use Rattle.gates.specs.Cell.{set_expression}
use Rattle.gates.proofs.Expressions.{holds_mono, holds_low}
use Rattle.runs.specs.Row.{Row, low}
use Rattle.runs.specs.Net.{rails, nets, IsGate, rise_up}
use Rattle.runs.specs.Acyclic.{Acyclic, AllPins}
use Rattle.runs.specs.Settled.{Settled, SettledHeld, SettledKept}
use Rattle.runs.proofs.Test.{clash, not-true, lt-ltb, le-ltb}
use Rattle.verdict.specs.Graph.{In, Leads, here, onward, OnLoop}
use Rattle.verdict.proofs.Graph as graph
use Rattle.verdict.proofs.Graph.{rank_falls}
use Rattle.verdict.proofs.Bridge.{pins_mono, pins_local, pins_low}
use Rattle.verdict.proofs.Steps.{loop-found, found_loop}
use Rattle.netlist.specs.Content.{Coded}
use Rattle.check_spec.specs.Lists.{reaches}
use Rattle.check_spec.specs.Content.{Content}
use Rattle.check_spec.specs.Rows.{no_gate, driver, cell_in, net_of, risen, fallen, feeding, reaches_itself}
use Rattle.check_spec.specs.Demands.{LoopFree, LoopsFound, TheOnly}
use Rattle.check_spec.proofs.Settling.{risen_settled, risen_only, fallen_settled, fallen_only}

-- ---- a stage without loops, in the theory of runs

pub feeding_gate : (s : Content) (u v : ℕ) → In v (feeding (net_of s) u) → IsGate (net_of s) u
feeding_gate s u v i = go (dec_lt u (rails (net_of s))) (dec_lt u (nets (net_of s)))
  where
    go : Dec (u < rails (net_of s)) → Dec (u < nets (net_of s)) → IsGate (net_of s) u
    go (yes h) b = absurd (rw (lt-ltb u (rails (net_of s)) h) at i)
    go (no h) (yes b) = (omega arith, b)
    go (no h) (no b) =
        let j : In v (driver s u).operands = rw (le-ltb u (rails (net_of s)) (omega arith)) at i in
        absurd (subst (λ (g : Coded). In v g.operands) (get_or-eq_default s.gates no_gate (omega arith)) j)

-- a stage whose nets have a rank that falls with each step has no loop
pub ranked_free : (s : Content) (rank : ℕ → ℕ) → ((u v : ℕ) → In v (feeding (net_of s) u) → rank v < rank u) → LoopFree (net_of s)
unfolding reaches_itself
ranked_free s rank falls net g =
    not-true _ (λ e. let l = found_loop (feeding (net_of s)) (nets (net_of s)) net e in omega (arith, falls net l.0 l.1, down l.2))
  where
    down : {y x : ℕ} → Leads (feeding (net_of s)) y x → rank y ≤ rank x
    down here = omega arith
    down {y} {x} (onward {z = z} i l) = omega (arith, falls x z i, down l)

-- every loop is found
pub loops_found : (s : Content) → LoopsFound (net_of s)
unfolding reaches_itself
loops_found s g k e =
    let l = found_loop (feeding (net_of s)) k g e in
    let z : suc (nets (net_of s) - 1) ≡ nets (net_of s) = omega (arith, (feeding_gate s g l.0 l.1).1) in
    subst (λ (m : ℕ). reaches (feeding (net_of s)) (eqb g) m g ≡ true) z
    (loop-found (feeding (net_of s)) (nets (net_of s) - 1) (λ a b j. omega (arith, (feeding_gate s a b j).1)) g l)

module _ (s : Content) (free : LoopFree (net_of s)) where
  pub no_loop : (u v : ℕ) → In v (feeding (net_of s) u) → ¬ (OnLoop (feeding (net_of s)) u)
  unfolding reaches_itself
  no_loop u v i l =
      let g = feeding_gate s u v i in
      let e : suc (nets (net_of s) - 1) ≡ nets (net_of s) = omega (arith, g.1) in
      clash (subst (λ (k : ℕ). reaches (feeding (net_of s)) (eqb u) k u ≡ true) e
      (loop-found (feeding (net_of s)) (nets (net_of s) - 1) (λ a b j. omega (arith, (feeding_gate s a b j).1)) u l)) (free u g)

  abbrev pub rank : ℕ → ℕ
  rank = graph.rank (feeding (net_of s)) (nets (net_of s)) (λ a b j. (feeding_gate s a b j).1)

  pub all_in : (P : ℕ → Type 0) (pins : List ℕ) → ((p : ℕ) → In p pins → P p) → AllPins P pins
  all_in P [] h = tt
  all_in P (p ∷ pins) h = (h p (inl refl), all_in P pins (λ q i. h q (inr i)))

  abbrev pub acyclic : Acyclic
  acyclic = record {
    net = net_of s;
    fires_mono = λ r t h k. holds_mono (set_expression (cell_in (driver s k))) (λ i. get_or (map r (driver s k).operands) i false) (λ i. get_or (map t (driver s k).operands) i false) (pins_mono r t h (driver s k).operands);
    fires_local = λ r t k h. ap (λ (l : List Bool). holds (set_expression (cell_in (driver s k))) (λ i. get_or l i false)) (pins_local r t (driver s k).operands h);
    fires_low = λ r k e. holds_low (set_expression (cell_in (driver s k))) (λ i. get_or (map r (driver s k).operands) i false) (pins_low r (driver s k).operands e);
    rank = rank;
    rank_pins = λ k g. all_in (λ p. rank p < rank k) (driver s k).operands (λ p i.
        let j : In p (feeding (net_of s) k) = rw (le-ltb k (rails (net_of s)) g.0) i in
        rank_falls (feeding (net_of s)) (nets (net_of s)) (λ a b x. (feeding_gate s a b x).1) k p (no_loop k p j) j);
  }

  -- the field `risen_is` of demand 2: the computed row is settled with X held low, and no other row is
  pub risen_is : (c X : Row) → TheOnly (SettledHeld (net_of s) c X) (risen (net_of s) c X)
  risen_is c X = (risen_settled acyclic c X, risen_only acyclic c X)

  -- and `fallen_is`
  pub fallen_is : (R X : Row) → ((k : ℕ) → nets (net_of s) ≤ k → R k ≡ false) → TheOnly (SettledKept (net_of s) X R) (fallen (net_of s) R X)
  fallen_is R X inside = (fallen_settled acyclic R X inside, λ r h. fallen_only acyclic R X r inside h)

  -- settled for some rails, with nothing held
  pub settled_is : (c : Row) → TheOnly (Settled (net_of s) c) (risen (net_of s) c low)
  settled_is c = (
    (λ k. (risen_is c low).0 k ∙ and-true (rise_up (net_of s) c (risen (net_of s) c low) k)),
    (λ t h. (risen_is c low).1 t (λ k. h k ∙ sym (and-true (rise_up (net_of s) c t k)))),
  )
