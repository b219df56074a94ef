-- Refusal 17 at one input, by its two bytes.
-- Assumes nothing.
use Prim.Native.Nat.{ℕ, ◌+◌, ◌*◌, ◌/◌, ◌≤◌, ◌<◌}
use native.Mathlib.Omega.{arith}
use native.Mathlib.Decide.{ℕ_discrete, dec_lt}
use mathlib.Core.Path.{◌≡◌, sym, subst}
use mathlib.Core.Bool.{Bool, true, false}
use mathlib.Core.List.{List}
use lib.ListN.{get_or}
use borrow.Author.Tests.{lt-ltb, le-ltb}
use Rattle.verdict.specs.Checks.{illegal}

module _ (row : List ℕ) (i : ℕ) where
  abbrev rail0 : ℕ
  rail0 = get_or row (2 * i) 0

  abbrev rail1 : ℕ
  rail1 = get_or row (2 * i + 1) 0

  pub above_0 : 1 < rail0 → true ≡ illegal row i
  unfolding illegal
  above_0 h = sym (simp (lt-ltb 1 rail0 h))

  pub above_1 : rail0 ≤ 1 → 1 < rail1 → true ≡ illegal row i
  unfolding illegal
  above_1 h h' = sym (simp (le-ltb 1 rail0 h, lt-ltb 1 rail1 h'))

-- the rails of a legal input are 0 and 1
pub legal_low : (row : List ℕ) (p : ℕ) → illegal row (p / 2) ≡ false → get_or row p 0 ≤ 1
legal_low row p e = go (dec_lt 1 (get_or row p 0)) (dec_lt 1 (get_or row (2 * (p / 2)) 0))
  where
    clash : (b : Bool) → true ≡ b → b ≡ false → ⊥
    clash b x y = let z : ◌≡◌ {A = ℕ} 0 1 = cc in omega arith

    at : (q : ℕ) → p ≡ q → 1 < get_or row p 0 → 1 < get_or row q 0
    at q f h = subst (λ (x : ℕ). 1 < get_or row x 0) f h

    go : Dec (1 < get_or row p 0) → Dec (1 < get_or row (2 * (p / 2)) 0) → get_or row p 0 ≤ 1
    go (no h) d = omega arith
    go (yes h) (yes l) = absurd (clash (illegal row (p / 2)) (above_0 row (p / 2) l) e)
    go (yes h) (no l) = even (ℕ_discrete p (2 * (p / 2)))
      where
        even : Dec (p ≡ 2 * (p / 2)) → get_or row p 0 ≤ 1
        even (yes f) = absurd (l (at (2 * (p / 2)) f h))
        even (no f) = absurd (clash (illegal row (p / 2)) (above_1 row (p / 2) (omega arith) (at (2 * (p / 2) + 1) (omega arith) h)) e)
