-- How many stages there are, and the parts of the loop test, as the code computes them.
-- Assumes nothing.
use Prim.Native.Nat.{ℕ, ◌+◌, ◌*◌, ◌/◌}
use mathlib.Core.Path.{◌≡◌, refl, sym}
use mathlib.Core.Bool.{Bool, true, false, not}
use Rattle.next_spec.specs.Numbered.{nets_of, stages, lists}
use Rattle.next_spec.specs.Listing.{has_pin, two_free, no_loop, free}

-- ---- how many stages there are

pub count_as : (n g a b r : ℕ) → stages a b ≡ r → n ≡ a → g ≡ b → r ≡ stages n g
count_as n g a b r c p q = rw (p, q) (sym c)

pub count_10 : stages 1 0 ≡ 4
unfolding lists
count_10 = refl

pub count_11 : stages 1 1 ≡ 162
unfolding lists
count_11 = refl

pub count_12 : stages 1 2 ≡ 16384
unfolding lists
count_12 = refl

pub count_20 : stages 2 0 ≡ 16
unfolding lists
count_20 = refl

pub count_21 : stages 2 1 ≡ 1250
unfolding lists
count_21 = refl

pub count_22 : stages 2 2 ≡ 186624
unfolding lists
count_22 = refl

-- ---- the parts of the loop test

module _ (n a b : ℕ) (p : Bool) (e : p ≡ has_pin (2 * n + 2) a (2 * n)) where
  pub free_first : p ≡ true → false ≡ two_free n a b
  free_first t = rw (← e, t)

  module _ (f : p ≡ false) (q : Bool) (h : q ≡ has_pin (2 * n + 2) b (2 * n + 1)) where
    pub free_second : q ≡ true → false ≡ two_free n a b
    free_second t = rw (← e, f, ← h, t)

    module _ (g : q ≡ false) (r : Bool) (i : r ≡ has_pin (2 * n + 2) a (2 * n + 1)) where
      pub free_each : r ≡ true → (s : Bool) → s ≡ has_pin (2 * n + 2) b (2 * n) → not s ≡ two_free n a b
      free_each t s j = rw (← e, f, ← h, g, ← i, t, ← j)

      pub free_none : r ≡ false → true ≡ two_free n a b
      free_none t = rw (← e, f, ← h, g, ← i, t)

pub stage_free : (n g z k : ℕ) (b : Bool) → k ≡ nets_of n g * nets_of n g → b ≡ no_loop n g (z / k) → b ≡ free n g z
unfolding free
stage_free n g z k b e h = rw e at h
