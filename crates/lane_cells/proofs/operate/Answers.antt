-- `lane_cells::operate` meets its contract, lane by lane. Assumes nothing.
use Prim.Native.Nat.{ℕ, zero, suc, ◌+◌, ◌-◌, ◌%◌, ◌≤◌}
use native.Mathlib.Omega.{arith}
use mathlib.Core.Path.{◌≡◌, refl, sym, ap, ◌∙◌}
use mathlib.Core.List.{[], ◌∷◌}
use lib.Bits.{differ, bit_xor}
use Rattle.verdict.specs.Answers as answers
use Rattle.circuit.proofs.Values.{operate_other}
use Rattle.lane_cells.specs.Lane.{level_in}
use Rattle.lane_cells.proofs.Lane.{level_zero, level_small, level_and, level_or, level_xor}
use Rattle.lane_cells.proofs.Blocks.{all-at}
use Rattle.lane_cells.proofs.operate.Goals as goal

-- what an operation gives, known to be operation k
known : (k op x a b : ℕ) → op ≡ k → x ≡ answers.operate k (a ∷ b ∷ []) → x ≡ answers.operate op (a ∷ b ∷ [])
known k op x a b e h = h ∙ ap (λ (n : ℕ). answers.operate n (a ∷ b ∷ [])) (sym e)

differ_not : (x : ℕ) → x ≤ 1 → differ x 1 ≡ 1 - x
differ_not zero h = refl
differ_not (suc zero) h = refl
differ_not (suc (suc x)) h = absurd (omega arith)

differ_sum : (x y : ℕ) → x ≤ 1 → y ≤ 1 → differ x y ≡ (x + y) % 2
differ_sum zero zero h k = refl
differ_sum zero (suc zero) h k = refl
differ_sum (suc zero) zero h k = refl
differ_sum (suc zero) (suc zero) h k = refl
differ_sum zero (suc (suc y)) h k = absurd (omega arith)
differ_sum (suc zero) (suc (suc y)) h k = absurd (omega arith)
differ_sum (suc (suc x)) y h k = absurd (omega arith)

-- XOR with all words is NOT
level-not : (j x : ℕ) → level_in j 0xFFFF_FFFF_FFFF_FFFF ≡ 1 → level_in j (bit_xor x 0xFFFF_FFFF_FFFF_FFFF) ≡ 1 - level_in j x
level-not j x e = level_xor j x 0xFFFF_FFFF_FFFF_FFFF ∙ ap (differ (level_in j x)) e ∙ differ_not (level_in j x) (level_small j x)

pub returns-in-1 : goal.returns-in-1
unfolding answers.operate
returns-in-1 c j h = known 1 _ _ _ _ c.in-1.is (level-not j _ (all-at j h))

pub returns-in-2 : goal.returns-in-2
unfolding answers.operate
returns-in-2 c j h = known 2 _ _ _ _ c.in-2.is (level_and j _ _)

pub returns-in-3 : goal.returns-in-3
unfolding answers.operate
returns-in-3 c j h = known 3 _ _ _ _ c.in-3.is (level_or j _ _)

pub returns-in-4 : goal.returns-in-4
unfolding answers.operate
returns-in-4 c j h = known 4 _ _ _ _ c.in-4.is (level_xor j _ _ ∙ differ_sum _ _ (level_small j _) (level_small j _))

pub returns-in-5 : goal.returns-in-5
unfolding answers.operate
returns-in-5 c j h = known 5 _ _ _ _ c.in-5.is (level-not j _ (all-at j h) ∙ ap (λ (x : ℕ). 1 - x) (level_and j _ _))

pub returns-in-6 : goal.returns-in-6
unfolding answers.operate
returns-in-6 c j h = known 6 _ _ _ _ c.in-6.is (level-not j _ (all-at j h) ∙ ap (λ (x : ℕ). 1 - x) (level_or j _ _))

pub returns-in_default : goal.returns-in_default
returns-in_default c j h = level_zero j ∙ operate_other _ _ _ (λ l k. omega arith)
