-- `circuit_values::operate` meets its contract. Assumes nothing.
use mathlib.Core.Path.{◌≡◌, refl, sym, ap, ◌∙◌}
use mathlib.Core.List.{◌∷◌, []}
use Prim.Native.Nat.{ℕ, ◌-◌, ◌≤◌}
use native.Mathlib.Omega.{arith}
use Rattle.verdict.specs.Answers as answers
use Rattle.circuit.proofs.Values.{operate_other}
use Rattle.circuit_values.proofs.operate.Goals as goal

-- what an operation gives, known to be operation k
operate-at : (k op a b r : ℕ) → op ≡ k → r ≡ answers.operate k (a ∷ b ∷ []) → r ≤ 1 → (r ≡ answers.operate op (a ∷ b ∷ [])) × (r ≤ 1)
operate-at k op a b r e h s = (h ∙ ap (λ (x : ℕ). answers.operate x (a ∷ b ∷ [])) (sym e), s)

pub returns-in-1 : goal.returns-in-1
unfolding answers.operate
returns-in-1 c = operate-at 1 _ _ _ _ c.in-1.is refl (omega arith)

pub returns-in-2 : goal.returns-in-2
unfolding answers.operate
returns-in-2 c = operate-at 2 _ _ _ _ c.in-2.is c.min.ensures (omega arith)

pub returns-in-3 : goal.returns-in-3
unfolding answers.operate
returns-in-3 c = operate-at 3 _ _ _ _ c.in-3.is c.max.ensures (omega arith)

pub returns-in-4 : goal.returns-in-4
unfolding answers.operate
returns-in-4 c = operate-at 4 _ _ _ _ c.in-4.is refl (omega arith)

pub returns-in-5 : goal.returns-in-5
unfolding answers.operate
returns-in-5 c = operate-at 5 _ _ _ _ c.in-5.is (ap (λ (x : ℕ). 1 - x) c.min-in-5.ensures) (omega arith)

pub returns-in-6 : goal.returns-in-6
unfolding answers.operate
returns-in-6 c = operate-at 6 _ _ _ _ c.in-6.is (ap (λ (x : ℕ). 1 - x) c.max-in-6.ensures) (omega arith)

pub returns-in_default : goal.returns-in_default
returns-in_default c = (operate_other _ _ _ (λ l h. omega arith), omega arith)
