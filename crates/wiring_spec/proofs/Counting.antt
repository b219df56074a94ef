-- Laws of counting the first numbers that pass a test.
-- Assumes nothing.
use Prim.Native.Nat.{ℕ, ◌≤◌, ◌<◌}
use native.Mathlib.Omega.{arith}
use mathlib.Core.Path.{◌≡◌, refl, sym, ap, ◌∙◌}
use mathlib.Core.Bool.{Bool, true, false}
use mathlib.Core.Logic.{⊎_elim}
use mathlib.Core.List.{List}
use lib.ListN.{get_or}
use Rattle.gates.specs.Cell.{bit}
use Rattle.runs.proofs.Test.{clash}
use Rattle.verdict.specs.Graph.{tabulate}
use Rattle.wiring_spec.specs.Counting.{passing}
use Rattle.verdict.proofs.Levels.{below_split, bits_sum}
use Rattle.verdict.proofs.Graph.{get_d_tabulate, bits_tabulate, below_tabulate}

pub passing_bound : (f : ℕ → Bool) (m : ℕ) → passing f m ≤ m
unfolding passing
passing_bound f m = bits_sum m (tabulate (λ x. bit (f x)) m) (bits_tabulate f m)

-- fewer pass a test that lets through only what another does, and not all of that
pub fewer : (f g : ℕ → Bool) (m k : ℕ) → ((j : ℕ) → f j ≡ true → g j ≡ true) → k < m → g k ≡ true → (f k ≡ true → ⊥) → passing f m < passing g m
unfolding passing
fewer f g m k more h there not =
    ⊎_elim (λ q. absurd (not (one (f k) (sym (at f) ∙ ap (λ (l : List ℕ). get_or l k 0) q ∙ at g ∙ ap bit there)))) (λ l. l)
    (below_split (tabulate (λ x. bit (f x)) m) (tabulate (λ x. bit (g x)) m) (below_tabulate f g more m))
  where
    one : (b : Bool) → bit b ≡ 1 → b ≡ true
    one true e = refl
    one false e = absurd (omega arith)

    at : (t : ℕ → Bool) → get_or (tabulate (λ x. bit (t x)) m) k 0 ≡ bit (t k)
    at t = get_d_tabulate (λ x. bit (t x)) m k 0 h

-- one that passes
pub some_passing : (f : ℕ → Bool) (m k : ℕ) → k < m → f k ≡ true → 1 ≤ passing f m
some_passing f m k h e = omega (arith, fewer (λ j. false) f m k (λ j q. absurd (clash q refl)) h e (λ q. clash q refl))
