-- What the least index and the first word of a sweep say of those before them.
-- Assumes nothing.
use Rattle.std.specs.Prelude.{Option, Some, None}
use Prim.Native.Nat.{ℕ, zero, suc, ◌+◌, ◌-◌, ◌≤◌, ◌<◌}
use native.Mathlib.Omega.{arith}
use native.Mathlib.Decide.{ℕ_discrete}
use mathlib.Core.Path.{◌≡◌, refl, sym, ap, ◌∙◌}
use mathlib.Core.Bool.{Bool, true, false}
use Rattle.verdict.specs.Words.{numbers}
use Rattle.verdict.specs.Checks.{first}
use Rattle.verdict.specs.Search.{least}

pub least_here : (f : ℕ → Bool) (j m : ℕ) → f j ≡ true → least f j (suc m) ≡ Some j
unfolding first numbers
least_here f j m e = rw e

pub least_later : (f : ℕ → Bool) (j m : ℕ) → f j ≡ false → least f j (suc m) ≡ least f (suc j) m
unfolding first numbers
least_later f j m e = rw e

-- ---- a search from 0 on

module _ (f : ℕ → Bool) (m j : ℕ) where
  -- none before j passes, so the least is the least from j on
  abbrev pub SoughtTo : Type 0
  SoughtTo = least f 0 m ≡ least f j (m - j)

  pub sought_on : j < m → SoughtTo → f j ≡ false → least f 0 m ≡ least f (j + 1) (m - (j + 1))
  sought_on h s e =
      let a : m - j ≡ suc (m - (j + 1)) = omega arith in
      let b : suc j ≡ j + 1 = omega arith in
      s ∙ ap (least f j) a ∙ least_later f j (m - (j + 1)) e ∙ ap (λ (i : ℕ). least f i (m - (j + 1))) b

  pub sought_here : j < m → SoughtTo → f j ≡ true → Some j ≡ least f 0 m
  sought_here h s e =
      let a : m - j ≡ suc (m - (j + 1)) = omega arith in
      sym (s ∙ ap (least f j) a ∙ least_here f j (m - (j + 1)) e)

  pub sought_none : m ≤ j → SoughtTo → None ≡ least f 0 m
  unfolding first numbers
  sought_none h s = let a : m - j ≡ 0 = omega arith in sym (s ∙ ap (least f j) a)

-- what the test says of the numbers from j on, m of them
pub record LeastAt (f : ℕ → Bool) (j m i : ℕ) : Type 0 where
  pub from : j ≤ i
  pub below : i < j + m
  pub passes : f i ≡ true
  pub none_before : (k : ℕ) → j ≤ k → k < i → f k ≡ false

abbrev pub LeastSays : (ℕ → Bool) → ℕ → ℕ → Option ℕ → Type 0
LeastSays f j m (Some i) = LeastAt f j m i
LeastSays f j m None = (k : ℕ) → j ≤ k → k < j + m → f k ≡ false

pub least_says : (f : ℕ → Bool) (j m : ℕ) (x : Option ℕ) → least f j m ≡ x → LeastSays f j m x
unfolding first numbers
least_says f j zero x e = go x e
  where
    go : (x : Option ℕ) → None ≡ x → LeastSays f j zero x
    go None e = λ k h h'. absurd (omega arith)
    go (Some i) e = absurd (let z : ◌≡◌ {A = ℕ} 0 1 = cc in omega arith)
least_says f j (suc m) x e = go (f j) refl (least_says f (suc j) m) x e
  where
    later : f j ≡ false → (x : Option ℕ) → LeastSays f (suc j) m x → LeastSays f j (suc m) x
    later p None r = λ k h h'. at k h h' (ℕ_discrete k j)
      where
        at : (k : ℕ) → j ≤ k → k < j + suc m → Dec (k ≡ j) → f k ≡ false
        at k h h' (yes q) = ap f q ∙ p
        at k h h' (no d) = r k (omega arith) (omega arith)
    later p (Some i) r = record {
      from = omega (arith, r.from);
      below = omega (arith, r.below);
      passes = r.passes;
      none_before = λ k h h'. at k h h' (ℕ_discrete k j);
    }
      where
        at : (k : ℕ) → j ≤ k → k < i → Dec (k ≡ j) → f k ≡ false
        at k h h' (yes q) = ap f q ∙ p
        at k h h' (no d) = r.none_before k (omega arith) h'

    go : (b : Bool) → f j ≡ b → ((x : Option ℕ) → least f (suc j) m ≡ x → LeastSays f (suc j) m x) → (x : Option ℕ) → least f j (suc m) ≡ x → LeastSays f j (suc m) x
    go true p r None e = absurd (let h : Some j ≡ None = sym (least_here f j m p) ∙ e in let z : ◌≡◌ {A = ℕ} 0 1 = cc in omega arith)
    go true p r (Some i) e =
        let h : Some j ≡ Some i = sym (least_here f j m p) ∙ e in
        let q : j ≡ i = cc in
        record { from = omega arith; below = omega arith; passes = sym (ap f q) ∙ p; none_before = λ k a b. absurd (omega arith) }
    go false p r x e = later p x (r x (sym (least_later f j m p) ∙ e))
