-- The loop test by pins is that of check 12, computed for each list of gates; and the counts 4 and 72.
-- Assumes nothing.
use Prim.Native.Nat.{ℕ, zero, suc, ◌+◌, ◌-◌, ◌*◌, ◌/◌, ◌<◌}
use native.Mathlib.Omega.{arith}
use mathlib.Core.Path.{◌≡◌, refl, sym, ap, subst, ◌∙◌}
use mathlib.Core.Bool.{Bool, true, false, cond, not}
use mathlib.Core.Logic.{⊎_elim}
use mathlib.Core.List.{List, []}
use lib.ListN.{length}
use Rattle.runs.proofs.Test.{clash, of_not}
use Rattle.netlist.specs.Coded.{Coded}
use Rattle.check_spec.specs.Lists.{some, reaches}
use Rattle.check_spec.specs.Content.{Content}
use Rattle.check_spec.specs.Rows.{net_of, reaches_itself}
use Rattle.check_spec.specs.Demands.{LoopFree}
use Rattle.next_spec.specs.Numbered.{nets_of, stages, lists, gates_numbered, stage_numbered}
use Rattle.next_spec.specs.Listing.{InShape, no_loop, free, loop_free_from, group}
use Rattle.next_spec.proofs.Digits.{apart, square, quotient_low}

-- one input: 4 stages without gates and 72 with one
pub count_0 : length (group 1 0) ≡ 4
unfolding group loop_free_from free lists
count_0 = refl

pub count_1 : length (group 1 1) ≡ 72
unfolding group loop_free_from free lists
count_1 = refl

-- ---- all below a number

abbrev all_below : (ℕ → Bool) → ℕ → Bool
all_below test zero = true
all_below test (suc m) = let later = all_below test m in cond (test m) later false

below_at : (test : ℕ → Bool) (m x : ℕ) → all_below test m ≡ true → x < m → test x ≡ true
below_at test zero x e l = absurd (omega arith)
below_at test (suc m) x e l = go (test m) refl (below_at test m x)
  where
    go : (b : Bool) → test m ≡ b → (all_below test m ≡ true → x < m → test x ≡ true) → test x ≡ true
    go true t later = ⊎_elim (λ q. subst (λ (i : ℕ). test i ≡ true) (sym q) t) (λ q. later (rw t at e) q) (apart x m (omega arith))
    go false f later = absurd (clash (rw f at e) refl)

at_below : (test : ℕ → Bool) (m : ℕ) → ((x : ℕ) → x < m → test x ≡ true) → all_below test m ≡ true
at_below test zero h = refl
at_below test (suc m) h = rw (h m (omega arith)) (at_below test m (λ x l. h x (omega arith)))

-- ---- the test of check 12 on some gates

-- a stage of some gates, whatever its output
abbrev bare : ℕ → List Coded → Content
bare n gates = record { inputs = n; gates = gates; outputs = []; care = []; parts = [] }

unfoldable loopless : ℕ → List Coded → Bool
loopless n gates = all_below (λ g. not (reaches_itself (net_of (bare n gates)) (2 * n + g))) (length gates)

of_loopless : (c : Content) → loopless c.inputs c.gates ≡ true → LoopFree (net_of c)
unfolding loopless reaches_itself
of_loopless c e net i =
    let z : 2 * c.inputs + (net - 2 * c.inputs) ≡ net = omega (arith, i.0) in
    rw z at (of_not (reaches_itself (net_of c) (2 * c.inputs + (net - 2 * c.inputs))) (below_at (λ g. not (reaches_itself (net_of (bare c.inputs c.gates)) (2 * c.inputs + g))) (length c.gates) (net - 2 * c.inputs) e (omega (arith, i.0, i.1))))

to_loopless : (c : Content) → LoopFree (net_of c) → loopless c.inputs c.gates ≡ true
unfolding loopless reaches_itself
to_loopless c h =
    at_below (λ g. not (reaches_itself (net_of (bare c.inputs c.gates)) (2 * c.inputs + g))) (length c.gates) (λ g l. ap not (h (2 * c.inputs + g) (omega arith, omega arith)))

-- ---- computed

unfoldable agree : Bool → Bool → Bool
agree true b = b
agree false b = not b

agree_eq : (a b : Bool) → agree a b ≡ true → b ≡ a
unfolding agree
agree_eq true b e = e
agree_eq false true e = sym e
agree_eq false false e = refl

unfoldable tested : ℕ → ℕ → Bool
tested n g = all_below (λ x. agree (loopless n (gates_numbered (nets_of n g) g x)) (no_loop n g x)) (lists (nets_of n g) g)

tested_10 : tested 1 0 ≡ true
unfolding tested agree loopless gates_numbered lists reaches_itself reaches some
tested_10 = refl

tested_11 : tested 1 1 ≡ true
unfolding tested agree loopless gates_numbered lists reaches_itself reaches some
tested_11 = refl

tested_12 : tested 1 2 ≡ true
unfolding tested agree loopless gates_numbered lists reaches_itself reaches some
tested_12 = refl

tested_20 : tested 2 0 ≡ true
unfolding tested agree loopless gates_numbered lists reaches_itself reaches some
tested_20 = refl

tested_21 : tested 2 1 ≡ true
unfolding tested agree loopless gates_numbered lists reaches_itself reaches some
tested_21 = refl

tested_22 : tested 2 2 ≡ true
unfolding tested agree loopless gates_numbered lists reaches_itself reaches some
tested_22 = refl

-- what holds of each shape
pub each_shape : (P : ℕ → ℕ → Type 0) → P 1 0 → P 1 1 → P 1 2 → P 2 0 → P 2 1 → P 2 2 → (n g : ℕ) → InShape n g → P n g
each_shape P a b c d e f zero g i = absurd (omega (arith, i.inputs_in))
each_shape P a b c d e f (suc zero) zero i = a
each_shape P a b c d e f (suc zero) (suc zero) i = b
each_shape P a b c d e f (suc zero) (suc (suc zero)) i = c
each_shape P a b c d e f (suc zero) (suc (suc (suc g))) i = absurd (omega (arith, i.gates_in_holds))
each_shape P a b c d e f (suc (suc zero)) zero i = d
each_shape P a b c d e f (suc (suc zero)) (suc zero) i = e
each_shape P a b c d e f (suc (suc zero)) (suc (suc zero)) i = f
each_shape P a b c d e f (suc (suc zero)) (suc (suc (suc g))) i = absurd (omega (arith, i.gates_in_holds))
each_shape P a b c d e f (suc (suc (suc n))) g i = absurd (omega (arith, i.inputs_in))

module _ (n g : ℕ) (shaped : InShape n g) (z : ℕ) (l : z < stages n g) where
  free-loopless : free n g z ≡ loopless n (stage_numbered n g z).gates
  unfolding free tested stage_numbered
  free-loopless =
      let m = nets_of n g in
      let x = z / (m * m) in
      let inside : x < lists m g = quotient_low (m * m) (square m (omega (arith, shaped.inputs_in))) z (lists m g) l in
      agree_eq (loopless n (gates_numbered m g x)) (no_loop n g x)
      (below_at (λ x. agree (loopless n (gates_numbered (nets_of n g) g x)) (no_loop n g x)) (lists m g) x
      (each_shape (λ n g. tested n g ≡ true) tested_10 tested_11 tested_12 tested_20 tested_21 tested_22 n g shaped) inside)

  pub free_no_loop : free n g z ≡ true → LoopFree (net_of (stage_numbered n g z))
  unfolding stage_numbered
  free_no_loop e = of_loopless (stage_numbered n g z) (sym free-loopless ∙ e)

  pub no_loop_free : LoopFree (net_of (stage_numbered n g z)) → free n g z ≡ true
  unfolding stage_numbered
  no_loop_free h = free-loopless ∙ to_loopless (stage_numbered n g z) h
