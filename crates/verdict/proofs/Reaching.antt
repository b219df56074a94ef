-- The test of check 12 passes at a gate exactly if the gate reaches itself through pins; and where it passes at none, nets have a rank.
-- Assumes nothing.
use Prim.Native.Nat.{ℕ, ◌+◌, ◌-◌, ◌*◌, ◌≤◌, ◌<◌}
use native.Mathlib.Omega.{arith}
use native.Mathlib.Decide.{dec_lt}
use mathlib.Core.Path.{◌≡◌, refl, subst}
use mathlib.Core.Bool.{Bool, true, false}
use mathlib.Core.List.{List, [], map}
use lib.ListN.{length, length-map, get_or-eq_default}
use borrow.Author.Tests.{lt-ltb, le-ltb}
use Rattle.netlist.specs.Content.{Gate}
use Rattle.verdict.specs.Graph.{Leads, here, onward}
use Rattle.verdict.specs.Loops.{In, pins_at, Feeds, gate_steps, ReachesItself, reaches_itself, NoLoop, LoopFree}
use Rattle.verdict.proofs.Graph.{on_loop_sound, on_loop_complete, rank, rank-≤, rank_falls}

module _ (n : ℕ) (gates : List Gate) where
  -- ---- the steps

  pub steps_gate : (k : ℕ) → gate_steps n gates (2 * n + k) ≡ pins_at gates k
  unfolding gate_steps
  steps_gate k = let e : 2 * n + k - 2 * n ≡ k = omega arith in rw (le-ltb (2 * n + k) (2 * n) (omega arith), e)

  -- only a gate has pins, ..
  pub pin_gate : (p k : ℕ) → In p (pins_at gates k) → k < length gates
  pin_gate p k i = go (dec_lt k (length gates))
    where
      go : Dec (k < length gates) → k < length gates
      go (yes h) = h
      go (no h) = absurd (subst (In p) (get_or-eq_default (map (λ (g : Gate). g.pins) gates) [] (omega (arith, length-map gates (λ (g : Gate). g.pins)))) i)

  -- .. so what has a step is the net of a gate
  pub step_gate : (x p : ℕ) → In p (gate_steps n gates x) → (k : ℕ) × (k < length gates) × (x ≡ 2 * n + k) × In p (pins_at gates k)
  unfolding gate_steps
  step_gate x p i = go (dec_lt x (2 * n))
    where
      go : Dec (x < 2 * n) → (k : ℕ) × (k < length gates) × (x ≡ 2 * n + k) × In p (pins_at gates k)
      go (yes h) = absurd (rw (lt-ltb x (2 * n) h) at i)
      go (no h) = let j = rw (le-ltb x (2 * n) (omega arith)) at i in (x - 2 * n, pin_gate p (x - 2 * n) j, omega arith, j)

  inside : (u v : ℕ) → In v (gate_steps n gates u) → u < 2 * n + length gates
  inside u v i = let s = step_gate u v i in omega (arith, s.1, s.2)

  -- ---- the test says what it means

  module _ (g : ℕ) where
    pub reaches_sound : reaches_itself n gates g ≡ true → ReachesItself n gates g
    unfolding reaches_itself
    reaches_sound e = on_loop_sound (gate_steps n gates) (2 * n + length gates) inside (2 * n + g) e

    pub reaches_complete : g < length gates → ReachesItself n gates g → reaches_itself n gates g ≡ true
    unfolding reaches_itself
    reaches_complete h r = on_loop_complete (gate_steps n gates) (2 * n + length gates) inside (2 * n + g) r

  pub loop_free_no_loop : LoopFree n gates → NoLoop n gates
  loop_free_no_loop free g hg r = let e = reaches_complete g hg r in let f = free g hg in let z : ◌≡◌ {A = ℕ} 0 1 = cc in omega arith

  pub no_loop_loop_free : NoLoop n gates → LoopFree n gates
  no_loop_loop_free h g hg = go (reaches_itself n gates g) refl
    where
      go : (b : Bool) → reaches_itself n gates g ≡ b → b ≡ false
      go true e = absurd (h g hg (reaches_sound g e))
      go false e = refl

  -- ---- the rank of a net: the pins of a gate rank below it

  pub rank_of : ℕ → ℕ
  rank_of x = rank (gate_steps n gates) (2 * n + length gates) inside x

  pub rank_of-≤ : (x : ℕ) → rank_of x ≤ 2 * n + length gates
  unfolding rank_of
  rank_of-≤ x = rank-≤ (gate_steps n gates) (2 * n + length gates) inside x

  pub rank_pin : LoopFree n gates → (p k : ℕ) → In p (pins_at gates k) → rank_of p < rank_of (2 * n + k)
  unfolding rank_of
  rank_pin free p k i =
      rank_falls (gate_steps n gates) (2 * n + length gates) inside (2 * n + k) p (loop_free_no_loop free k (pin_gate p k i)) (rw (steps_gate k) i)

  -- and where gates have places such that what feeds a gate comes before it, there is no loop
  module _ (place : ℕ → ℕ) (before : (j k : ℕ) → j < length gates → k < length gates → Feeds n gates j k → place j < place k) where
    leads-before : (g : ℕ) → g < length gates → {x : ℕ} → Leads (gate_steps n gates) (2 * n + g) x → (k : ℕ) × (k < length gates) × (x ≡ 2 * n + k) × (place g ≤ place k)
    leads-before g hg here = (g, hg, refl, omega arith)
    leads-before g hg (onward {x = x} {z = z} i l) =
        let s = step_gate x z i in
        let r = leads-before g hg l in
        (s.0, s.1, s.2, omega (arith, r.3, before r.0 s.0 r.1 s.1 (subst (λ (p : ℕ). In p (pins_at gates s.0)) r.2 s.3)))

    pub placed_free : LoopFree n gates
    placed_free = no_loop_loop_free (λ g hg l.
        let r = leads-before g hg l.2 in
        omega (arith, r.3, before r.0 g r.1 hg (subst (λ (p : ℕ). In p (pins_at gates g)) r.2 (rw (steps_gate g) at l.1))))
