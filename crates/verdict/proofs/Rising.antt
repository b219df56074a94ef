-- The test of 32 means that the gate is low at the rest of every word of the stage.
-- Assumes nothing.
use Prim.Native.Nat.{ℕ}
use mathlib.Core.Path.{◌≡◌, refl, ap, ◌∙◌}
use mathlib.Core.Bool.{Bool, true, false, cond}
use mathlib.Core.Logic.{◌⊎◌, inl, inr}
use mathlib.Core.List.{List, [], ◌∷◌}
use Rattle.runs.proofs.Test.{clash}
use Rattle.netlist.specs.Content.{Stage}
use Rattle.verdict.specs.Loops.{In}
use Rattle.verdict.specs.Words.{words, IsWord}
use Rattle.verdict.specs.Checks.{high_at, low_in, never_rises}

low_in_lem : (s : Stage) (g : ℕ) (ws : List ℕ) → low_in s g ws ≡ true → (w : ℕ) → In w ws → high_at s w g ≡ false
unfolding low_in
low_in_lem s g [] e w i = absurd i
low_in_lem s g (x ∷ ws) e w i = go (high_at s x g) refl e (λ l. low_in_lem s g ws l w) i
  where
    go : (b : Bool) → high_at s x g ≡ b → cond b false (low_in s g ws) ≡ true → (low_in s g ws ≡ true → In w ws → high_at s w g ≡ false)
        → (w ≡ x) ⊎ In w ws → high_at s w g ≡ false
    go true h e later i = absurd (clash e refl)
    go false h e later (inl q) = ap (λ (v : ℕ). high_at s v g) q ∙ h
    go false h e later (inr i) = later e i

in_low : (s : Stage) (g : ℕ) (ws : List ℕ) → ((w : ℕ) → In w ws → high_at s w g ≡ false) → low_in s g ws ≡ true
unfolding low_in
in_low s g [] f = refl
in_low s g (x ∷ ws) f = ap (λ (b : Bool). cond b false (low_in s g ws)) (f x (inl refl)) ∙ in_low s g ws (λ w i. f w (inr i))

-- gate g is low at the rest of every word of the stage
abbrev pub NeverRises : Stage → ℕ → Type 0
NeverRises s g = (w : ℕ) → IsWord s w → high_at s w g ≡ false

module _ (s : Stage) (g : ℕ) where
  pub never_rises_holds : never_rises s g ≡ true → NeverRises s g
  never_rises_holds e = low_in_lem s g (words s) e

  pub rises_never : NeverRises s g → never_rises s g ≡ true
  rises_never f = in_low s g (words s) f
